-- What the account of takes tells is what its history says (docs/laws/ACCOUNT.md).
use Rattle.std.specs.Prelude.{◌≡◌, ℕ, ◌-◌, ◌<◌, ◌≤◌, false, List, ◌∷◌, drop, Option}
use Rattle.l2_num.specs.Least.{IsLeast}
use Rattle.journal_takes.specs.declared.take.Take.{Take}
use Rattle.journal_takes.specs.TakeEvents.{TakeEvent, next_new, kept, sdu_of, is_confirmed}
use Rattle.journal_takes.specs.TakeEvents.{is_taken}
use Rattle.journal_takes.specs.Takeable.{IsTakeable, AreTakes}
use Rattle.journal_takes.specs.FlowTakes.{FlowTakes, next_take, sdu_kept, takes_of}

pub record AreTakesTold (first bits : ℕ) (es : List TakeEvent) (t : FlowTakes) : Type 0 where
  -- U is the first COUNT that isn't confirmed
  pub low : IsLeast (is_confirmed first es) first t.low
  pub next : t.next ≡ next_new first es
  -- what is said to be takeable is so, and nothing else is
  pub takes : IsTakeable first bits es (next_take t)
  pub only : (next : Option Take) → IsTakeable first bits es next → next ≡ next_take t
  -- RLC takes COUNTs in ascending order in a life: none from the one that is next on is taken in it
  pub ascend : (count : ℕ) → t.at ≤ count → is_taken es count ≡ false
  -- the SDUs from U on, or from the first that is to be taken on, and those that wait
  pub from_low : t.from ≤ t.low
  pub from_at : t.from ≤ t.at
  pub sdus : (count : ℕ) → t.from ≤ count → sdu_kept count t ≡ sdu_of first es count
  pub waiting : t.waiting ≡ drop (t.next - first) (kept first es)

abbrev pub TakesAreTrue : Type 0
TakesAreTrue = (first bits : ℕ) (es : List TakeEvent) → AreTakes first bits es
    → AreTakesTold first bits es (takes_of first bits es)

-- a COUNT that was taken has the same SDU ever after
abbrev pub SdusStay : Type 0
SdusStay = (first bits : ℕ) (e : TakeEvent) (es : List TakeEvent) → AreTakes first bits (e ∷ es)
    → (count : ℕ) → first ≤ count → count < next_new first es
    → sdu_of first (e ∷ es) count ≡ sdu_of first es count
