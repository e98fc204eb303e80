-- What is left to show of `fields::shape::judge_modify`.
use Rattle.fields.proofs.Shapes.{modify-barred, modify-held, modify-short, modify-granted}
use Rattle.fields.proofs.shape.judge_modify.Goals as goal

pub returns-then-is_wrong_code : goal.returns-then-is_wrong_code
returns-then-is_wrong_code c t sits there x = modify-barred _ _ _ _ _ _ c.if-is_wrong_code.ensures

pub returns-then-is_held : goal.returns-then-is_held
returns-then-is_held c t sits there x =
    modify-held _ _ _ _ _ _ _ _ c.blocks_in-blocks.ensures c.blocks_in-old.ensures c.if-is_wrong_code.ensures c.if-is_held.ensures

pub returns-then-lacks_room : goal.returns-then-lacks_room
returns-then-lacks_room c t sits there x =
    modify-short _ _ _ _ _ _ _ _ c.blocks_in-blocks.ensures c.blocks_in-old.ensures
    c.if-is_wrong_code.ensures c.if-is_held.ensures c.if-lacks_room.ensures

pub returns : goal.returns
returns c t sits there x =
    modify-granted _ _ _ _ _ _ _ _ c.blocks_in-blocks.ensures c.blocks_in-old.ensures
    c.if-is_wrong_code.ensures c.if-is_held.ensures c.if-lacks_room.ensures sits there x _ c.change_at.ensures
