-- No record but that of a line has more than eight words.
use Rattle.std.proofs.Common.{◌≡◌, ◌<◌, ℕ, Bool, true, false, if◌then◌else◌, List, ◌∷◌, length, Result, Ok, Err}
use Rattle.std.proofs.Common.{refl, arith, codes}
use Rattle.std.specs.Str.{bytes_eq}
use Rattle.l2_types.specs.declared.side.Side.{Side}
use Rattle.l2_types.specs.declared.side.Side.TheVariants.{Nb, Ue}
use Rattle.air_record.specs.declared.record.Record.{Record}
use Rattle.air_text.specs.declared.fault.LineRefusal.{LineRefusal}
use Rattle.air_text.specs.Fields.{number_of}
use Rattle.journal_text.specs.declared.fault.TextFault.{TextFault}
use Rattle.journal_text.specs.declared.fault.TextFault.TheVariants.{NotARecord, NoMemory}
use Rattle.journal_text.specs.Answers.{none, ◌>>=◌}
use Rattle.journal_text.specs.Blocks.{tti_of, sleep_of, block_of, air_of, refused_of, looped_of, drained_of}
use Rattle.journal_text.specs.Blocks.{sum_of}
use Rattle.journal_text.specs.Events.{take_of, report_of, send_of, wait_of, start_of, stop_of, expired_of, up_of}
use Rattle.journal_text.specs.Events.{fail_of, drop_of, integrity_of, discard_of, bad_block_of, bad_rlc_of}
use Rattle.journal_text.specs.Events.{bad_pdcp_of, bad_of, channel_event_of, event_of}
use Rattle.journal_text.specs.Fields.{number_in, number_to}
use Rattle.journal_text.specs.Names.{side_of}
use Rattle.journal_text.specs.Pdus.{front_of, sdu_of, pad_of, truncated_of, short_of, long_of, phr_of, crnti_of}
use Rattle.journal_text.specs.Pdus.{advance_of, drx_of, contention_of, transparent_of, umd_of, amd_of, segment_of}
use Rattle.journal_text.specs.Pdus.{status_of, user_of, signalling_of, status_report_of, bsr_of, mac_of, rlc_of}
use Rattle.journal_text.specs.Pdus.{pdcp_of}
use Rattle.journal_text.specs.Reading.{words_of}

either : (b : Bool) (x y : Result Record TextFault) → x ≡ none → y ≡ none → (if b then x else y) ≡ none
either true x y first second = first
either false x y first second = second

-- reading that answers, or has no record
abbrev pub Answers : {A : Type 0} → Result A TextFault → Type 0
Answers (Ok x) = Unit {0}
Answers (Err NotARecord) = Unit {0}
Answers (Err NoMemory) = ⊥

pub then-none : {A : Type 0} (r : Result A TextFault) (f : A → Result Record TextFault) → Answers r
    → ((x : A) → f x ≡ none) → (r >>= f) ≡ none
then-none (Ok x) f answers h = h x
then-none (Err NotARecord) f answers h = refl
then-none (Err NoMemory) f answers h = absurd answers

pub side-answers : (w : List ℕ) → Answers (side_of w)
unfolding side_of
side-answers w = by (bytes_eq w (codes "ue")) (bytes_eq w (codes "nb"))
  where
    by : (a b : Bool) → Answers (if a then Ok Ue else if b then Ok Nb else none)
    by true b = tt
    by false true = tt
    by false false = tt

pub number-answers : (w : List ℕ) → Answers (number_to 255 w)
unfolding number_to
number-answers w = by (number_of 0 255 w)
  where
    by : (r : Result ℕ LineRefusal) → Answers (number_in r)
    by (Ok n) = tt
    by (Err e) = tt

-- eight fields or more, of which the first two may name something
module _ (x y b c d e f g : List ℕ) (more : List (List ℕ)) where
  abbrev six : List (List ℕ)
  six = b ∷ c ∷ d ∷ e ∷ f ∷ g ∷ more

  bad-many : (side : Side) → bad_of side y six ≡ none
  unfolding bad_of bad_block_of bad_rlc_of bad_pdcp_of
  bad-many side =
      either (bytes_eq y (codes "mac")) _ _ refl
      (either (bytes_eq y (codes "rlc")) _ _ refl (either (bytes_eq y (codes "pdcp")) _ _ refl refl))

  channel-many : (first : List ℕ) (side : Side) (lcid : ℕ) → channel_event_of first side lcid six ≡ none
  unfolding take_of report_of send_of wait_of start_of stop_of expired_of up_of fail_of drop_of integrity_of discard_of
  channel-many first side lcid =
      either (bytes_eq first (codes "take")) _ _ refl
      (either (bytes_eq first (codes "send")) _ _ refl
      (either (bytes_eq first (codes "up")) _ _ refl
      (either (bytes_eq first (codes "start")) _ _ refl
      (either (bytes_eq first (codes "stop")) _ _ refl
      (either (bytes_eq first (codes "report")) _ _ refl
      (either (bytes_eq first (codes "wait")) _ _ refl
      (either (bytes_eq first (codes "drop")) _ _ refl
      (either (bytes_eq first (codes "expired")) _ _ refl
      (either (bytes_eq first (codes "fail")) _ _ refl
      (either (bytes_eq first (codes "discard")) _ _ refl
      (either (bytes_eq first (codes "integrity")) _ _ refl refl)))))))))))

  event-many : (first : List ℕ) → event_of first (x ∷ y ∷ six) ≡ none
  unfolding event_of
  event-many first =
      then-none (side_of x) _ (side-answers x)
      (λ side. either (bytes_eq first (codes "bad")) _ _ (bad-many side)
      (then-none (number_to 255 y) _ (number-answers y) (channel-many first side)))

  bsr-many : bsr_of (y ∷ six) ≡ none
  unfolding bsr_of truncated_of short_of long_of
  bsr-many =
      either (bytes_eq y (codes "truncated")) _ _ refl
      (either (bytes_eq y (codes "short")) _ _ refl (either (bytes_eq y (codes "long")) _ _ refl refl))

  mac-many : mac_of (x ∷ y ∷ six) ≡ none
  unfolding mac_of sdu_of pad_of front_of phr_of crnti_of advance_of drx_of contention_of
  mac-many =
      either (bytes_eq x (codes "sdu")) _ _ refl
      (either (bytes_eq x (codes "pad")) _ _ refl
      (either (bytes_eq x (codes "front")) _ _ refl
      (either (bytes_eq x (codes "bsr")) _ _ bsr-many
      (either (bytes_eq x (codes "phr")) _ _ refl
      (either (bytes_eq x (codes "crnti")) _ _ refl
      (either (bytes_eq x (codes "ta")) _ _ refl
      (either (bytes_eq x (codes "drx")) _ _ refl
      (either (bytes_eq x (codes "contention")) _ _ refl refl))))))))

  rlc-many : rlc_of (x ∷ y ∷ six) ≡ none
  unfolding rlc_of amd_of umd_of status_of segment_of transparent_of
  rlc-many =
      either (bytes_eq x (codes "am")) _ _ refl
      (either (bytes_eq x (codes "um")) _ _ refl
      (either (bytes_eq x (codes "status")) _ _ refl
      (either (bytes_eq x (codes "seg")) _ _ refl (either (bytes_eq x (codes "tm")) _ _ refl refl))))

  pdcp-many : pdcp_of (x ∷ y ∷ six) ≡ none
  unfolding pdcp_of user_of signalling_of status_report_of
  pdcp-many =
      either (bytes_eq x (codes "data")) _ _ refl
      (either (bytes_eq x (codes "srb")) _ _ refl (either (bytes_eq x (codes "report")) _ _ refl refl))

  record-many : (first : List ℕ) → words_of (first ∷ x ∷ y ∷ six) ≡ none
  unfolding words_of block_of air_of tti_of sleep_of refused_of looped_of drained_of sum_of
  record-many first =
      either (bytes_eq first (codes "mac")) _ _ mac-many
      (either (bytes_eq first (codes "rlc")) _ _ rlc-many
      (either (bytes_eq first (codes "pdcp")) _ _ pdcp-many
      (either (bytes_eq first (codes "block")) _ _ refl
      (either (bytes_eq first (codes "air")) _ _ refl
      (either (bytes_eq first (codes "tti")) _ _ refl
      (either (bytes_eq first (codes "sleep")) _ _ refl
      (either (bytes_eq first (codes "refused")) _ _ refl
      (either (bytes_eq first (codes "loop")) _ _ refl
      (either (bytes_eq first (codes "drained")) _ _ refl
      (either (bytes_eq first (codes "sum")) _ _ refl (event-many first)))))))))))

pub too_many : (words : List (List ℕ)) → 8 < length words → words_of words ≡ none
too_many (first ∷ x ∷ y ∷ b ∷ c ∷ d ∷ e ∷ f ∷ g ∷ more) h = record-many x y b c d e f g more first
too_many words h = absurd (omega (arith, h))
