-- How many new PDUs of a channel a side has told of since each new block: few as it is got.
use Rattle.std.proofs.Common.{◌≡◌, ◌≤◌, ℕ, ◌+◌, ◌==◌, Bool, true, false, List, [], ◌∷◌, refl, sym, subst}
use Rattle.std.proofs.Common.{if◌then◌else◌, arith}
use Rattle.l2_types.specs.declared.side.Side.{Side}
use Rattle.l2_types.specs.declared.side.Side.TheVariants.{Nb, Ue}
use Rattle.mac_pdu.specs.declared.item.Direction.{Direction}
use Rattle.mac_pdu.specs.declared.item.Direction.TheVariants.{Down, Up}
use Rattle.rlc_pdu.specs.declared.constants.TheConstants.{AM_WINDOW_SIZE}
use Rattle.bearer_types.specs.declared.event.Event.{Event}
use Rattle.bearer_types.specs.Sides.{is_same, sender_of}
use Rattle.air_record.specs.declared.record.Record.{Record}
use Rattle.air_record.specs.declared.record.Record.TheVariants as records
use Rattle.air_text.specs.Groups.{Group}
use Rattle.promises.specs.Parts.{is_handover}
use Rattle.promises.specs.Records.{is_got}
use Rattle.law_sound.proofs.SinglePdus.{new_in, named_by, AreSingle}
use Rattle.law_sound.proofs.Young.{Ages, with_age, after_age, all_age, IsYoung, AreYoung, oldest}

-- those behind the side's last new block, and those since the last new block of each process began,
-- in it too; and the process of the block that was sent last
pub record Pending : Type 0 where
  pub named : ℕ
  pub since : ℕ → ℕ
  pub process : ℕ

abbrev pub none_pending : Pending
none_pending = record { named = 0; since = λ p. 0; process = 0 }

abbrev pub with_new_block : ℕ → Pending → Pending
with_new_block p x = record {
  named = 0;
  since = λ q. if q == p then x.named else x.since q + x.named;
  process = p;
}

abbrev pub after_record : Side → ℕ → Record → Pending → Pending
after_record from l (records.Of side event) x =
    if is_same from side then record x { named = x.named + new_in l event } else x
after_record from l (records.Block way p true version octets) x =
    if is_same (sender_of way) from then with_new_block p x else x
after_record from l (records.Block way p false version octets) x =
    if is_same (sender_of way) from then record x { process = p } else x
after_record from l one x = x

abbrev pub after_records : Side → ℕ → List Record → Pending → Pending
after_records from l [] x = x
after_records from l (one ∷ told) x = after_records from l told (after_record from l one x)

-- a group ends
abbrev pub settled : Pending → Pending
settled x = record x { named = 0 }

-- behind groups: a handover renews the processes
abbrev pub pending : Side → ℕ → List Group → Pending
pending from l [] = none_pending
pending from l (g ∷ past) = if is_handover g.line then none_pending
    else settled (after_records from l g.events (pending from l past))

-- ---- a block that is got

abbrev pub ComesSoon : Side → Record → Pending → Type 0
ComesSoon from (records.Air way what heard) x =
    is_same (sender_of way) from ≡ true → is_got what ≡ true → x.since x.process ≤ AM_WINDOW_SIZE
ComesSoon from one x = Unit {0}

abbrev pub AllComeSoon : Side → ℕ → List Record → Pending → Type 0
AllComeSoon from l [] x = Unit {0}
AllComeSoon from l (one ∷ told) x =
    ComesSoon from one x × AllComeSoon from l told (after_record from l one x)

-- ---- no more new PDUs than new blocks

pub record IsUnder (x : Pending) (y : Ages) : Type 0 where
  pub named : x.named ≤ 1
  pub since : (q : ℕ) → x.since q ≤ y.count q
  pub process : x.process ≡ y.process

record Steps (from : Side) (l : ℕ) (one : Record) (x : Pending) (y : Ages) : Type 0 where
  soon : ComesSoon from one x
  under : IsUnder (after_record from l one x) (after_age from one y)
  named_is : (after_record from l one x).named ≡ named_by from l one x.named

event_steps : (from side : Side) (l : ℕ) (event : Event) (x : Pending) (y : Ages)
    → named_by from l (records.Of side event) x.named ≤ 1 → IsUnder x y
    → Steps from l (records.Of side event) x y
event_steps Nb Nb l event x y single h =
    record { soon = tt; under = record { named = single; since = h.since; process = h.process }; named_is = refl }
event_steps Ue Ue l event x y single h =
    record { soon = tt; under = record { named = single; since = h.since; process = h.process }; named_is = refl }
event_steps Nb Ue l event x y single h = record { soon = tt; under = h; named_is = refl }
event_steps Ue Nb l event x y single h = record { soon = tt; under = h; named_is = refl }

new_under : (p : ℕ) (x : Pending) (y : Ages) → IsUnder x y → IsUnder (with_new_block p x) (with_age p y)
new_under p x y h = record {
  named = omega arith;
  since = λ q. by q (q == p);
  process = refl;
}
  where
    by : (q : ℕ) (b : Bool) → (if b then x.named else x.since q + x.named) ≤ (if b then 1 else y.count q + 1)
    by q true = h.named
    by q false = let since = h.since q in let named = h.named in omega (arith, since, named)

new_steps : (from : Side) (way : Direction) (l p version : ℕ) (octets : List ℕ) (x : Pending) (y : Ages) → IsUnder x y
    → Steps from l (records.Block way p true version octets) x y
new_steps Nb Down l p version octets x y h =
    record { soon = tt; under = new_under p x y h; named_is = refl }
new_steps Ue Up l p version octets x y h = record { soon = tt; under = new_under p x y h; named_is = refl }
new_steps Nb Up l p version octets x y h = record { soon = tt; under = h; named_is = refl }
new_steps Ue Down l p version octets x y h = record { soon = tt; under = h; named_is = refl }

again_steps : (from : Side) (way : Direction) (l p version : ℕ) (octets : List ℕ) (x : Pending) (y : Ages)
    → IsUnder x y → Steps from l (records.Block way p false version octets) x y
again_steps Nb Down l p version octets x y h =
    record { soon = tt; under = record { named = h.named; since = h.since; process = refl }; named_is = refl }
again_steps Ue Up l p version octets x y h =
    record { soon = tt; under = record { named = h.named; since = h.since; process = refl }; named_is = refl }
again_steps Nb Up l p version octets x y h = record { soon = tt; under = h; named_is = refl }
again_steps Ue Down l p version octets x y h = record { soon = tt; under = h; named_is = refl }

young_soon : (x : Pending) (y : Ages) → IsUnder x y → y.count y.process ≤ oldest
    → x.since x.process ≤ AM_WINDOW_SIZE
young_soon x y h young =
    let since : x.since x.process ≤ y.count y.process =
    subst (λ (p : ℕ). x.since x.process ≤ y.count p) h.process (h.since x.process) in
    omega (arith, since, young)

record_steps : (from : Side) (l : ℕ) (one : Record) (x : Pending) (y : Ages) → named_by from l one x.named ≤ 1
    → IsUnder x y → IsYoung from one y → Steps from l one x y
record_steps from l (records.Of side event) x y single h young = event_steps from side l event x y single h
record_steps from l (records.Block way p true version octets) x y single h young =
    new_steps from way l p version octets x y h
record_steps from l (records.Block way p false version octets) x y single h young =
    again_steps from way l p version octets x y h
record_steps from l (records.Air way what heard) x y single h young =
    record { soon = λ own got. young_soon x y h (young own got); under = h; named_is = refl }
record_steps from l one x y single h young = record { soon = tt; under = h; named_is = refl }

pub record ComeSoon (from : Side) (l : ℕ) (told : List Record) (x : Pending) (y : Ages) : Type 0 where
  pub soon : AllComeSoon from l told x
  pub under : IsUnder (after_records from l told x) (all_age from told y)

pub all_soon : (from : Side) (l : ℕ) (told : List Record) (x : Pending) (y : Ages) → AreSingle from l told x.named
    → IsUnder x y → AreYoung from told y → ComeSoon from l told x y
all_soon from l [] x y single h young = record { soon = tt; under = h }
all_soon from l (one ∷ told) x y single h young =
    let s = record_steps from l one x y single.0 h young.0 in
    let rest = all_soon from l told (after_record from l one x) (after_age from one y)
    (subst (λ (n : ℕ). AreSingle from l told n) (sym s.named_is) single.1) s.under young.1 in
    record { soon = (s.soon, rest.soon); under = rest.under }
