-- `table::trailer::closes` meets its contract: the last two bytes, one after the other.
-- Assumes nothing.
use Rattle.std.proofs.Common.{◌≡◌, ℕ, suc, ◌-◌, ◌≤◌, List, [], ◌∷◌, length, get_or, drop, ◌∙◌, arith, nat_eq, ◌&&◌}
use Rattle.std.proofs.Math.Seq.{drop-cons}
use Rattle.std.proofs.Math.ListN.{drop_of_length-le}
use Rattle.std.specs.Cmp.Lexicographic.{pointwise}
use Rattle.std.proofs.lemmas.Grind.{common_steps}
use lib.Dec.{eqb}
use Rattle.table.specs.Rules.{closing_ok}
use Rattle.table.proofs.trailer.closes.Goals as goal

turned : (a b : ℕ) → pointwise nat_eq (0x42 ∷ 0x54 ∷ []) (a ∷ b ∷ []) ≡ (eqb a 0x42 && eqb b 0x54)
turned a b = grind (arith, common_steps)

last : (t : List ℕ) → 2 ≤ length t → pointwise nat_eq (0x42 ∷ 0x54 ∷ []) (drop (length t - 2) t) ≡ closing_ok t
last t h =
    let n = length t - 2 in
    let e : length t - 1 ≡ suc n = omega arith in
    rw (drop-cons t n 0 (omega arith), drop-cons t (suc n) 0 (omega arith), drop_of_length-le t {i = suc (suc n)} (omega arith), e)
    (turned (get_or t n 0) (get_or t (suc n) 0))

pub returns : goal.returns
returns c = c.ends_with.ensures.value ∙ last _ c.requires
