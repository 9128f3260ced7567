-- What is kept of acknowledged data in one direction of a bearer as PDCP gives it to RLC, and how
-- what is told changes it (docs/laws/ACCOUNT.md; TS 36.323 5.1.1, 5.2.1.1, 5.3, 5.4, TS 36.322
-- 5.1.3.1.1). A `take` or a `report` that isn't right tells PDCP nothing; the journal is wrong from
-- then on. What happens to the data is kept as its history, or as the account that a program keeps:
-- the steps are the same.
use Rattle.std.specs.Prelude.{ℕ, zero, suc, ◌+◌, ◌-◌, ◌*◌, ◌^◌, ◌%◌, ◌==◌, Bool, true, false, ◌&&◌}
use Rattle.std.specs.Prelude.{◌||◌, nat_lt, not, if◌then◌else◌, List, [], ◌∷◌, ◌++◌, length}
use Rattle.std.specs.Prelude.{drop, slice_index, Option, Some, None}
use Rattle.pdcp_pdu.specs.Grammar.{bit_of}
use Rattle.journal_account.specs.FlowConfirmed.{is_confirmed_kept}
use Rattle.journal_lives.specs.CountsCome.{CountsCome, none_come}
use Rattle.journal_lives.specs.FlowLives.{FlowLives}
use Rattle.journal_takes.specs.declared.take.Take.{Take}
use Rattle.journal_takes.specs.declared.take.Take.TheVariants.{Report, Pdu}
use Rattle.journal_takes.specs.TakeEvents.{TakeEvent, PduTaken, ReportTaken, PduConfirmed}
use Rattle.journal_takes.specs.TakeEvents.{ReportConfirmed, ReportHeard, LifeEnded}
use Rattle.journal_takes.specs.FlowTakes.{FlowTakes, no_takes, takes_with, takes_of, next_take}
use Rattle.journal_takes.specs.FlowTakes.{sdu_kept}
use Rattle.journal_given.specs.declared.supply.GivenPdu.{GivenPdu}

-- ---- histories, and accounts

-- what keeps what happens: as the first life begins, with the first COUNT and the bits of sequence
-- numbers; behind an event; what is to be taken next, and the octets of a COUNT's SDU
pub record Keeper (T : Type 0) : Type 0 where
  pub begins : ℕ → ℕ → T
  pub tells : TakeEvent → T → T
  pub next : T → Option Take
  pub sdu : ℕ → T → Option (List ℕ)
  pub waits : T → Bool

-- the events of all lives so far, the latest first
pub record History : Type 0 where
  pub first : ℕ
  pub bits : ℕ
  pub events : List TakeEvent

abbrev pub account : History → FlowTakes
account h = takes_of h.first h.bits h.events

-- an SDU waits
abbrev pub has_waiting : FlowTakes → Bool
has_waiting t = nat_lt 0 (length t.waiting)

-- what is to be taken next by a history is what its account says, and that is exactly what is
-- takeable (journal_takes, `TakesAreTrue`)
abbrev pub histories : Keeper History
histories = record {
  begins = λ first bits. record { first = first; bits = bits; events = [] };
  tells = λ e h. record h { events = e ∷ h.events };
  next = λ h. next_take (account h);
  sdu = λ count h. sdu_kept count (account h);
  waits = λ h. has_waiting (account h);
}

abbrev pub accounts : Keeper FlowTakes
accounts = record {
  begins = no_takes;
  tells = takes_with;
  next = next_take;
  sdu = sdu_kept;
  waits = has_waiting;
}

-- ---- one direction

pub record Supply (T : Type 0) : Type 0 where
  -- the bits of a sequence number of PDCP
  pub bits : ℕ
  pub takes : T
  -- how many PDUs RLC was given in the life that runs, and those that it isn't told to have
  -- confirmed
  pub given : ℕ
  pub unconfirmed : List GivenPdu
  -- what the status report of this life says: the COUNTs that had come the other way as it began
  pub said : CountsCome
  -- which PDU the report is, from when it is taken until it has come
  pub report : Option ℕ

abbrev pub begun : {T : Type 0} → Keeper T → ℕ → ℕ → Supply T
begun k first bits = record {
  bits = bits;
  takes = k.begins first bits;
  given = 0;
  unconfirmed = [];
  said = none_come first;
  report = None;
}

abbrev pub told : {T : Type 0} → Keeper T → TakeEvent → Supply T → Supply T
told k e s = record s { takes = k.tells e s.takes }

-- ---- RLC takes the PDU of a COUNT

abbrev pub is_pdu : ℕ → Option Take → Bool
is_pdu count (Some (Pdu own)) = own == count
is_pdu count other = false

abbrev pub has_length : ℕ → Option (List ℕ) → Bool
has_length len None = false
has_length len (Some octets) = length octets == len

-- the one that is next, with the length of its SDU
abbrev pub is_take : {T : Type 0} → Keeper T → Option ℕ → ℕ → Supply T → Bool
is_take k None len s = false
is_take k (Some count) len s = is_pdu count (k.next s.takes) && has_length len (k.sdu count s.takes)

-- RLC is given a PDU, which is one of PDCP or, where it isn't right, none
abbrev pub gives_other : {T : Type 0} → Supply T → Supply T
gives_other s = record s { given = s.given + 1 }

abbrev pub gives : {T : Type 0} → Option ℕ → Supply T → Supply T
gives count s = record s {
  given = s.given + 1;
  unconfirmed = s.unconfirmed ++ record { number = s.given; count = count } ∷ [];
}

abbrev pub takes_pdu : {T : Type 0} → Keeper T → Option ℕ → ℕ → Supply T → Supply T
takes_pdu k None len s = gives_other s
takes_pdu k (Some count) len s = if is_take k (Some count) len s
    then gives (Some count) (told k (PduTaken count) s) else gives_other s

-- ---- RLC takes the status report

abbrev pub is_report : Option Take → Bool
is_report (Some Report) = true
is_report other = false

-- of so many bits of a bitmap from bit k on, bit 0 being that of a COUNT, the COUNTs of those that
-- are set (TS 36.323 6.3.10)
abbrev pub marked_from : List ℕ → ℕ → ℕ → ℕ → List ℕ
marked_from bitmap count k zero = []
marked_from bitmap count k (suc n) = if bit_of bitmap k
    then (count + k) ∷ marked_from bitmap count (k + 1) n else marked_from bitmap count (k + 1) n

-- a list has one first; two have the same
abbrev pub is_at : ℕ → List ℕ → Bool
is_at x [] = false
is_at x (y ∷ ys) = y == x

abbrev pub is_same_list : List ℕ → List ℕ → Bool
is_same_list [] ys = length ys == 0
is_same_list (x ∷ xs) ys = is_at x ys && is_same_list xs (drop 1 ys)

-- it is no longer than its last 1
abbrev pub is_short : List ℕ → Bool
is_short bitmap = (length bitmap == 0) || not (slice_index bitmap (length bitmap - 1) == 0)

-- the FMS is the first COUNT that hadn't come, and the bitmap marks those beyond it that had, up to
-- the greatest (TS 36.323 5.3.1, 6.2.6)
abbrev pub says : ℕ → List ℕ → ℕ → CountsCome → Bool
says fms bitmap bits said = (fms == said.next % 2 ^ bits)
    && (is_same_list (marked_from bitmap (said.next + 1) 0 (8 * length bitmap)) said.beyond
    && is_short bitmap)

abbrev pub is_right_report : {T : Type 0} → Keeper T → ℕ → List ℕ → Supply T → Bool
is_right_report k fms bitmap s = is_report (k.next s.takes) && says fms bitmap s.bits s.said

abbrev pub reports : {T : Type 0} → Supply T → Supply T
reports s = record s { report = Some s.given }

abbrev pub takes_report : {T : Type 0} → Keeper T → ℕ → List ℕ → Supply T → Supply T
takes_report k fms bitmap s = if is_right_report k fms bitmap s
    then gives None (reports (told k ReportTaken s)) else gives_other s

-- ---- RLC confirms what it was given

abbrev pub confirmation : Option ℕ → TakeEvent
confirmation None = ReportConfirmed
confirmation (Some count) = PduConfirmed count

abbrev pub confirms_one : {T : Type 0} → Keeper T → (ℕ → Bool) → GivenPdu → Supply T → Supply T
confirms_one k p pdu s = if p pdu.number then told k (confirmation pdu.count) s
    else record s { unconfirmed = s.unconfirmed ++ pdu ∷ [] }

abbrev pub confirms_all : {T : Type 0} → Keeper T → (ℕ → Bool) → List GivenPdu → Supply T
    → Supply T
confirms_all k p [] s = s
confirms_all k p (pdu ∷ pdus) s = confirms_all k p pdus (confirms_one k p pdu s)

-- those that a flow says are confirmed, in their order, and once each
abbrev pub confirms : {T : Type 0} → Keeper T → (ℕ → Bool) → Supply T → Supply T
confirms k p s = confirms_all k p s.unconfirmed (record s { unconfirmed = [] })

-- ---- what the account of a flow says, where there is one

abbrev pub is_confirmed_by : Option FlowLives → ℕ → Bool
is_confirmed_by None number = false
is_confirmed_by (Some l) number = is_confirmed_kept number l.account

-- a PDU that RLC was given is in sequence
abbrev pub is_sequenced_by : Option FlowLives → ℕ → Bool
is_sequenced_by None number = false
is_sequenced_by (Some l) number = nat_lt number l.account.sdus.sequenced

abbrev pub come_by : Option FlowLives → CountsCome
come_by None = none_come 0
come_by (Some l) = l.come

-- ---- both directions of a bearer, by the side that sends

pub record Bearer (T : Type 0) : Type 0 where
  pub nb : Supply T
  pub ue : Supply T

-- the report that was taken has come, by the flow that carries it
abbrev pub has_come : Option FlowLives → Option ℕ → Bool
has_come own None = false
has_come own (Some number) = is_sequenced_by own number

-- and is heard once
abbrev pub report_gone : {T : Type 0} → Option FlowLives → Supply T → Supply T
report_gone own s = if has_come own s.report then record s { report = None } else s

abbrev pub hears : {T : Type 0} → Keeper T → Option FlowLives → Supply T → Supply T → Supply T
hears k own sender s = if has_come own sender.report
    then told k (ReportHeard sender.said.next sender.said.beyond) s else s

-- RLC confirms as a STATUS comes
abbrev pub confirms_if : {T : Type 0} → Keeper T → Bool → Option FlowLives → Supply T → Supply T
confirms_if k true flow s = confirms k (is_confirmed_by flow) s
confirms_if k false flow s = s

-- lower layers are re-established: the next life begins with a report of what came the other way
abbrev pub life_ended : {T : Type 0} → Keeper T → CountsCome → Supply T → Supply T
life_ended k said s = record {
  bits = s.bits;
  takes = k.tells (LifeEnded true) s.takes;
  given = 0;
  unconfirmed = [];
  said = said;
  report = None;
}
