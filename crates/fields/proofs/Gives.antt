-- What a survey made before the row is chosen gives each row. Assumes nothing.
use Prim.Native.Nat.{ℕ}
use mathlib.Core.Path.{◌≡◌, sym, subst}
use mathlib.Core.List.{List}
use lib.ListN.{length}
use Rattle.meaning.specs.Bytes.{arg}
use Rattle.meaning.specs.Fields.{survey}
use Rattle.meaning.specs.Commands.{Command}
use Rattle.fields.specs.declared.seen.Survey.{Survey}
use Rattle.fields.specs.Memory.{Lent, Saw, survey_of}
use Rattle.fields.specs.Replies.{Asked, Looked, Tellable, Countable}
use Rattle.fields.proofs.Tables.{first-few, free_few, fields-few}

-- 4Ah, 4Bh, 4Dh
pub looked : {k : Command} {t : ℕ} {cs m d w : List ℕ} {v : Survey} → Saw t m (arg d 0) v → Asked k t m d w → length cs ≡ 4 → Looked k v cs m d w
looked {k} {t} {cs} {m} {d} {w} {v} s a c = record {
  asked = subst (λ (n : ℕ). Asked k n m d w) (sym s.total) a;
  seen = subst (λ (n : ℕ). survey_of v ≡ survey n m (arg d 0)) (sym s.total) s.seen;
  codes = c;
}

-- 4Ch
pub tellable : {k : Command} {t f : ℕ} {m d w : List ℕ} {v : Survey} → Saw t m f v → Asked k t m d w → Tellable k v d w
tellable {f = f} {v = v} s a = record { wanted = a.wanted; few = first-few _ _ a.lent.fit f (survey_of v) s.seen; room = a.lent.room }

-- 4Eh
pub countable : {t f : ℕ} {m w : List ℕ} {v : Survey} → Saw t m f v → Lent t m w → Countable v w
countable {f = f} {v = v} s l = record {
  free = free_few _ _ l.fit f (survey_of v) s.seen;
  fields = fields-few _ _ l.fit f (survey_of v) s.seen;
  room = l.room;
}
