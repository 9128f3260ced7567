-- The sums at the end are the journal's own counts, and tell of failures as it does.
use Rattle.std.proofs.Common.{◌≡◌, ◌<◌, ℕ, List, [], ◌∷◌, ◌++◌, refl, ap, arith}
use Rattle.std.specs.List.{AllByRecursion}
use Rattle.bearer_types.specs.Lcids.{all_lcids}
use Rattle.air_link.specs.Sums.{sums}
use Rattle.air_record.specs.declared.record.Record.{Record}
use Rattle.air_run.specs.Run.{finish}
use Rattle.air_run.specs.Sums.{sum_of, sums_of, all_sums, finishing}
use Rattle.air_text.specs.Groups.{Group}
use Rattle.l2_types.specs.declared.side.Side.{Side}
use Rattle.l2_types.specs.declared.side.Side.TheVariants.{Nb, Ue}
use Rattle.law_run.specs.Order.{state_behind}
use Rattle.law_run.specs.Sums.{sum_told, sums_told, all_told}
use Rattle.law_run.proofs.Past.{Behind}

one_told : (side : Side) (past : List Group) (lcid : ℕ) → lcid < 11 → Behind past
    → sum_of side (state_behind past).link (state_behind past).losses lcid
    ≡ sum_told side past (state_behind past) lcid
unfolding sums
one_told Nb past lcid lt b =
    let r = state_behind past in
    rw (b.nb_submitted.each lcid lt) (rw (b.ue_delivered.each lcid lt) (rw (b.nb_failed.each lcid lt) refl))
one_told Ue past lcid lt b =
    let r = state_behind past in
    rw (b.ue_submitted.each lcid lt) (rw (b.nb_delivered.each lcid lt) (rw (b.ue_failed.each lcid lt) refl))

each_told : (past : List Group) (lcid : ℕ) → lcid < 11 → Behind past
    → sums_of (state_behind past).link (state_behind past).losses lcid ≡ sums_told past (state_behind past) lcid
each_told past lcid lt b = rw (one_told Nb past lcid lt b) (rw (one_told Ue past lcid lt b) refl)

are_told : (past : List Group) (lcids : List ℕ) → AllByRecursion (λ lcid. lcid < 11) lcids → Behind past
    → all_sums (state_behind past).link (state_behind past).losses lcids ≡ all_told past (state_behind past) lcids
are_told past [] within b = refl
are_told past (lcid ∷ lcids) (lt, within) b =
    rw (each_told past lcid lt b)
    (ap (λ (x : List Record). sums_told past (state_behind past) lcid ++ x) (are_told past lcids within b))

all_within : AllByRecursion (λ lcid. lcid < 11) all_lcids
all_within = (
  omega arith,
  (
    omega arith,
    (
      omega arith,
      (
        omega arith,
        (omega arith, (omega arith, (omega arith, (omega arith, (omega arith, (omega arith, (omega arith, tt))))))),
      ),
    ),
  ),
)

pub finish_told : (past : List Group) → Behind past
    → finish (state_behind past) ≡ all_told past (state_behind past) all_lcids
unfolding finishing
finish_told past b = are_told past all_lcids all_within b
