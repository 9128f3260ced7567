-- Which of the SDUs offered have arrived, by their places, and what goes up and is confirmed of
-- them (TS 36.322 5.1.3.1, 5.1.3.2, 5.4).
use Rattle.std.specs.Prelude.{◌≡◌, ℕ, ◌+◌, ◌<◌, Bool, true, false, ◌&&◌, if◌then◌else◌, List, []}
use Rattle.std.specs.Prelude.{◌∷◌, length, drop, Some, nat_lt, slice_get, slice_index_or}
use Rattle.l2_types.specs.declared.config.AmTxConfig.{AmTxConfig}
use Rattle.l2_types.specs.declared.AmRxConfig.{AmRxConfig}
use Rattle.rlc_am_rx.specs.Machine.{finished}
use Rattle.law_rlc.specs.AmReceiver.Finish.{all_come}
use Rattle.law_rlc.specs.AmPair.Flow.{Flow, Step, Sends, Receives, Reports, DataComes, StatusComes}
use Rattle.law_rlc.specs.AmPair.Flow.{DataGoes, StatusGoes, Passes, sender, receiver, happens, goes}
use Rattle.law_rlc.specs.AmPair.Flow.{am_rlc_outset}
use Rattle.law_rlc.specs.AmPair.Given.{IsGiven, AreGiven}
use Rattle.law_rlc.specs.AmPair.Sdus.{offered, handed_up, ready}
use Rattle.law_rlc.specs.AmPair.Seen.{seen}

-- all octets of the SDU at a place, among those offered, have arrived
abbrev pub arrives : Flow → ℕ → Bool
arrives f place = nat_lt place (length (seen f)) && all_come (slice_index_or (seen f) place [])

-- of each flow that has come by steps that are given
abbrev pub Always : (Flow → Type 0) → Type 0
Always P = (sending : AmTxConfig) (receiving : AmRxConfig) (steps : List Step)
    → AreGiven (am_rlc_outset sending receiving) steps
    → P (goes steps (am_rlc_outset sending receiving))

abbrev pub ArrivedWasOffered : Type 0
ArrivedWasOffered = Always (λ f. (place : ℕ) → arrives f place ≡ true → place < length (offered f))

-- ---- over a step

abbrev pub ArrivalsStay : Type 0
ArrivalsStay = Always (λ f. (s : Step) (place : ℕ) → IsGiven f s → arrives f place ≡ true
    → arrives (happens f s) place ≡ true)

-- a data PDU comes
abbrev pub brings : Step → Bool
brings (Sends c) = false
brings (Receives c) = false
brings (Reports size octets) = false
brings (DataComes k) = true
brings (StatusComes k) = false
brings (DataGoes k) = false
brings (StatusGoes k) = false
brings Passes = false

abbrev pub OnlyDataArrives : Type 0
OnlyDataArrives = Always (λ f. (s : Step) (place : ℕ) → IsGiven f s → brings s ≡ false
    → arrives (happens f s) place ≡ arrives f place)

-- ---- what is ready

-- the SDU that was offered at a place, which has arrived
pub record IsWholeAt (f : Flow) (place : ℕ) (sdu : List ℕ) : Type 0 where
  pub is : slice_get (offered f) place ≡ Some sdu
  pub arrived : arrives f place ≡ true

-- what is ready is at the places from the number of those that were handed up on, and the one
-- behind hasn't arrived
pub record HasReady (f : Flow) : Type 0 where
  pub held : ready f ≡ (receiver f).state.out.ready
  pub places : (k : ℕ) (sdu : List ℕ) → slice_get (ready f) k ≡ Some sdu
      → IsWholeAt f (length (handed_up f) + k) sdu
  pub stops : arrives f (length (handed_up f) + length (ready f)) ≡ false

abbrev pub NextIsReady : Type 0
NextIsReady = Always HasReady

-- ---- as the life ends

-- of SDUs at the places from one on those that have arrived
abbrev pub whole_from : (ℕ → Bool) → ℕ → List (List ℕ) → List (List ℕ)
whole_from whole place [] = []
whole_from whole place (sdu ∷ sdus) = if whole place then sdu ∷ whole_from whole (place + 1) sdus
    else whole_from whole (place + 1) sdus

-- `finish` gives those that weren't handed up, also the ones that are ready
abbrev pub FinishGivesByPlaces : Type 0
FinishGivesByPlaces =
    Always (λ f. finished (receiver f).state
    ≡ whole_from (arrives f) (length (handed_up f)) (drop (length (handed_up f)) (offered f)))

-- ---- what is confirmed

-- the places that the sender confirms next
abbrev pub ConfirmsWhatArrived : Type 0
ConfirmsWhatArrived =
    Always (λ f. (k place : ℕ) → slice_get (sender f).state.accounts.news k ≡ Some place
    → (arrives f place ≡ true) × (place < length (offered f)))
