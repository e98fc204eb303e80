-- What is left to show of `fields::shape::judge_create`.
use Rattle.fields.proofs.Shapes.{create-barred, create-short, create-granted}
use Rattle.fields.proofs.shape.judge_create.Goals as goal

pub returns-then-is_wrong_code : goal.returns-then-is_wrong_code
returns-then-is_wrong_code c f sits at x = create-barred _ _ _ _ _ _ c.if-is_wrong_code.ensures

pub returns-then-lacks_room : goal.returns-then-lacks_room
returns-then-lacks_room c f sits at x =
    create-short _ _ _ _ _ _ c.if-is_wrong_code.ensures _ c.blocks_in-blocks.ensures c.if-lacks_room.ensures

pub returns : goal.returns
returns c f sits at x =
    create-granted _ _ _ _ _ _ c.if-is_wrong_code.ensures _ c.blocks_in-blocks.ensures c.if-lacks_room.ensures sits at x _ c.change_at.ensures
