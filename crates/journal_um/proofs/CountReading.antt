-- What PDCP reads of SDUs that go up.
use Rattle.std.proofs.Common.{◌≡◌, ◌<◌, ◌≤◌, ◌^◌, ◌%◌, ℕ, ◌+◌, Bool, true, false, nat_le, List, [], ◌∷◌, refl, sym}
use Rattle.std.proofs.Common.{subst, arith}
use Rattle.std.proofs.lemmas.Bool.Decides.{nat_tests}
use Rattle.l2_num.specs.Ascending.{IsAscending}
use Rattle.l2_num.proofs.NumberLemmas.{recovered-reduced}
use Rattle.journal_um.specs.declared.pieces.JoinedSdu.{JoinedSdu}
use Rattle.journal_um.specs.UmNumbers.{edge_in, top_in}
use Rattle.journal_um.specs.UmSdus.{joined_in, all_joined_in}
use Rattle.journal_um.specs.UmLosses.{leaves_out}
use Rattle.journal_um.specs.LossLaws.{chosen_of, AreSomeOf, written_below, places_of, AreCounted, CountsAreRead}
use Rattle.journal_um.proofs.Either.{neither}
use Rattle.journal_um.proofs.Losing.{loses_only}

from-lower : (low high : ℕ) (xs : List ℕ) → low ≤ high → IsAscending high xs → IsAscending low xs
from-lower low high [] le a = tt
from-lower low high (x ∷ xs) le a = let from = a.0 in (omega (arith, le, from), a.1)

chosen-ascend : (low : ℕ) (bs : List Bool) (ys : List JoinedSdu) → IsAscending low (places_of ys)
    → IsAscending low (places_of (chosen_of bs ys))
chosen-ascend low [] ys a = tt
chosen-ascend low (b ∷ bs) [] a = tt
chosen-ascend low (true ∷ bs) (y ∷ ys) a = (a.0, chosen-ascend (y.place + 1) bs ys a.1)
chosen-ascend low (false ∷ bs) (y ∷ ys) a =
    let from = a.0 in
    from-lower low (y.place + 1) (places_of (chosen_of bs ys)) (omega (arith, from))
    (chosen-ascend (y.place + 1) bs ys a.1)

some-ascend : (xs ys : List JoinedSdu) → AreSomeOf xs ys → IsAscending 0 (places_of ys) → IsAscending 0 (places_of xs)
some-ascend xs ys r a =
    subst (λ (l : List JoinedSdu). IsAscending 0 (places_of l)) (sym r.are) (chosen-ascend 0 r.choice ys a)

near : (next many place : ℕ) → nat_le (next + many) place ≡ false → place < next + many
near next many place e = grind (arith, nat_tests, e)

counted : (bits next : ℕ) (sdus : List JoinedSdu) → IsAscending next (places_of sdus)
    → leaves_out (2 ^ bits) next sdus ≡ false → AreCounted bits next sdus
counted bits next [] ascend short = tt
counted bits next (sdu ∷ sdus) ascend short =
    let parts = neither (nat_le (next + 2 ^ bits) sdu.place) (leaves_out (2 ^ bits) (sdu.place + 1) sdus) short in (
      recovered-reduced next (sdu.place % 2 ^ bits) bits (2 ^ bits) sdu.place (omega arith) (record {
        from = ascend.0;
        below = near next (2 ^ bits) sdu.place parts.first;
        sn_is = refl;
      }),
      counted bits (sdu.place + 1) sdus ascend.1 parts.second,
    )

pub counts_are_read : CountsAreRead
counts_are_read bits width written es some short carry order =
    let left = loses_only width written es some short carry in
    record {
      up = λ few. counted bits 0 (joined_in width es)
          (some-ascend (joined_in width es) (written_below written (edge_in width es)) left.up
          (order (edge_in width es))) few;
      at_end = λ few. counted bits 0 (all_joined_in width es)
          (some-ascend (all_joined_in width es) (written_below written (top_in width es)) left.at_end
          (order (top_in width es))) few;
    }
