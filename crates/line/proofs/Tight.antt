-- No two differing outcomes satisfy a contract of this crate (01, "How tightly the contracts bind"). Assumes nothing.
use Rattle.std.proofs.Common.{◌≡◌, ℕ, ◌*◌, ◌≤◌, Bool, List, [], Option, None, Some, length, take, sym, refl, ap, ◌∙◌, arith, length-append, length-drop, length-take-le}
use lib.ListN.{length-replicate}
use Rattle.meaning.specs.Bytes.{put, zeros}
use Rattle.meaning.specs.State as meaning
use Rattle.meaning.specs.State.{Line, label_length, fresh, plate_ok, with_line}
use Rattle.meaning.specs.Characters as characters
use Rattle.meaning.specs.Characters.{full_pause, no_frame_open, ticks_left, remaining}
use Rattle.line.specs.declared.plate.Plate.{Plate}
use Rattle.line.specs.declared.characters.OpenFrame.{OpenFrame}
use Rattle.line.specs.Line.{plate_of, line_of, remaining_of, Extends}

parts : {a a' : Bool} {b c d b' c' d' : ℕ} {x y x' y' : Bool} → a ≡ a' → b ≡ b' → c ≡ c' → d ≡ d' → x ≡ x' → y ≡ y'
    → ◌≡◌ {A = OpenFrame} (record { begun = a; last = b; len = c; sum = d; longer = x; parity = y }) (record { begun = a'; last = b'; len = c'; sum = d'; longer = x'; parity = y' })
parts i j k n o q = rw (i, j, k, n, o, q)

same_len : (a c : ℕ) (k : List ℕ) → a ≤ 135 → c ≤ 135 → 135 ≤ length k → take a k ≡ take c k → a ≡ c
same_len a c k h i j e = sym (length-take-le a k (omega arith)) ∙ ap length e ∙ length-take-le c k (omega arith)

-- the meaning's line says which frame it is
pub same-line-same-frame : (f g : OpenFrame) (k : List ℕ) → f.len ≤ 135 → g.len ≤ 135 → 135 ≤ length k → line_of f k ≡ line_of g k → f ≡ g
same-line-same-frame f g k h i j e =
    parts (ap (λ (x : Line). x.begun) e) (ap (λ (x : Line). x.last) e) (same_len f.len g.len k h i j (ap (λ (x : Line). x.kept) e))
    (ap (λ (x : Line). x.sum) e) (ap (λ (x : Line). x.longer) e) (ap (λ (x : Line). x.parity) e)

pub put-long : (k x : List ℕ) → length k ≤ length (put k 0 x)
unfolding put
put-long k x = simp (length-append, length-drop) (omega arith)

pub with_character_tight : (l : Line) (k : List ℕ) (f g : OpenFrame) (a b : List ℕ) → length k ≡ 135 → Extends l k f a → Extends l k g b → (f ≡ g) × (a ≡ b)
with_character_tight l k f g a b all p q =
    let same : a ≡ b = p.bytes ∙ sym q.bytes in
    let long : 135 ≤ length a = rw p.bytes (omega (arith, put-long k l.kept)) in
    (same-line-same-frame f g a p.few q.few long (p.line ∙ sym (ap (line_of g) same ∙ q.line)), same)

-- the meaning's case says which one it is in the code
abbrev pub remaining_back : characters.Remaining → Option ℕ
remaining_back no_frame_open = None
remaining_back (ticks_left n) = Some n

pub there_and_back : (r : Option ℕ) → remaining_back (remaining_of r) ≡ r
there_and_back None = refl
there_and_back (Some n) = refl

pub back_and_there : (x : characters.Remaining) → remaining_of (remaining_back x) ≡ x
back_and_there no_frame_open = refl
back_and_there (ticks_left n) = refl

pub same-remaining : (a b : Option ℕ) → remaining_of a ≡ remaining_of b → a ≡ b
same-remaining a b e = sym (there_and_back a) ∙ ap remaining_back e ∙ there_and_back b

-- a plate with any pause
abbrev pausing : ℕ → meaning.Plate
pausing n = record { total = 0; bits = 0; address = 0; ticks = 1; pause = n; label = [] }

pub remaining_tight : (n : ℕ) (f : OpenFrame) (t : ℕ) (a b : Option ℕ)
    → ((p : meaning.Plate) (s : meaning.State) (k : List ℕ) → n ≡ full_pause p → s.line ≡ line_of f k → remaining_of a ≡ remaining p s t)
    → ((p : meaning.Plate) (s : meaning.State) (k : List ℕ) → n ≡ full_pause p → s.line ≡ line_of f k → remaining_of b ≡ remaining p s t) → a ≡ b
unfolding with_line full_pause
remaining_tight n f t a b h i =
    let s : meaning.State = with_line (fresh (pausing n)) (line_of f []) in
    let e : n ≡ n * 1 = omega arith in
    same-remaining a b (h (pausing n) s [] e refl ∙ sym (i (pausing n) s [] e refl))

pub full_pause_tight : (p : Plate) (a b : ℕ) → ((l : List ℕ) → a ≡ full_pause (plate_of p l)) → ((l : List ℕ) → b ≡ full_pause (plate_of p l)) → a ≡ b
full_pause_tight p a b h i = h [] ∙ sym (i [])

pub is_ok_tight : (p : Plate) (a b : Bool) → ((l : List ℕ) → length l ≡ label_length → a ≡ plate_ok (plate_of p l)) → ((l : List ℕ) → length l ≡ label_length → b ≡ plate_ok (plate_of p l)) → a ≡ b
is_ok_tight p a b h i = h (zeros label_length) (length-replicate {A = ℕ} label_length 0) ∙ sym (i (zeros label_length) (length-replicate {A = ℕ} label_length 0))
