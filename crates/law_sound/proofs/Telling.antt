-- What records tell of other flows, or of a flow what changes nothing of what has come, leaves its
-- history agreeing.
use Rattle.std.proofs.Common.{◌≡◌, ◌⊎◌, ℕ, ◌==◌, Bool, true, false, ◌&&◌, List, [], ◌∷◌, refl, ap, ◌∙◌}
use Rattle.std.proofs.Common.{inl, inr, if◌then◌else◌}
use Rattle.std.specs.List.{AllByRecursion}
use Rattle.std.proofs.lemmas.Bool.{eq-eqb}
use Rattle.l2_types.specs.declared.side.Side.{Side}
use Rattle.l2_types.specs.declared.side.Side.TheVariants.{Nb, Ue}
use Rattle.bearer_types.specs.Sides.{is_same}
use Rattle.law_words.specs.Arrivals.{Account}
use Rattle.journal_account.specs.FlowEvents.{FlowEvent, next_of}
use Rattle.journal_lives.specs.LifeEvents.{LifeEvent, PduGiven, InLife, LifeEnded, running}
use Rattle.journal_flows.specs.Possible.{is_possible, with_event}
use Rattle.journal_flows.specs.NumberedPdus.{AnyEvent, Acked, Unacked, Told}
use Rattle.journal_flows.specs.Gathering.{all_told}
use Rattle.journal_flows.specs.FlowsTold.{Histories, histories, with_told, is_at}
use Rattle.law_sound.proofs.Agreeing.{Agrees}
use Rattle.law_sound.proofs.Events.{IsIdle, agrees_idle}

-- ---- one flow

abbrev pub flow : Side → ℕ → Histories → List LifeEvent
flow from l f = f.acked from l

pub same_side : (side : Side) → is_same side side ≡ true
same_side Nb = refl
same_side Ue = refl

pub at_own : (side : Side) (l : ℕ) → is_at side l side l ≡ true
at_own side l =
    ap (λ (b : Bool). b && (l == l)) (same_side side) ∙ eq-eqb l l refl

-- ---- what is told elsewhere, or tells nothing

abbrev ApartBy : Side → ℕ → Side → ℕ → AnyEvent → Type 0
ApartBy from l side lcid (Unacked e) = Unit {0}
ApartBy from l side lcid (Acked (InLife e)) = (is_at side lcid from l ≡ false) ⊎ IsIdle e
ApartBy from l side lcid (Acked e) = is_at side lcid from l ≡ false

abbrev pub IsApart : Side → ℕ → Told → Type 0
IsApart from l t = ApartBy from l t.side t.lcid t.event

elsewhere : (from : Side) (l : ℕ) (side : Side) (lcid : ℕ) (e : LifeEvent) (a : Account) (f : Histories)
    → is_at side lcid from l ≡ false → Agrees a (flow from l f)
    → Agrees a (flow from l (with_told (record { side = side; lcid = lcid; event = Acked e }) f))
elsewhere from l side lcid e a f apart h = by (is_at side lcid from l) apart
  where
    by : (b : Bool) → b ≡ false → Agrees a (if b then with_event e (f.acked from l) else f.acked from l)
    by true e = absurd (let bad = e in cc)
    by false e = h

idle_told : (from : Side) (l : ℕ) (side : Side) (lcid : ℕ) (e : FlowEvent) (a : Account) (f : Histories) → IsIdle e
    → Agrees a (flow from l f)
    → Agrees a (flow from l (with_told (record { side = side; lcid = lcid; event = Acked (InLife e) }) f))
idle_told from l side lcid e a f idle h =
    by (is_at side lcid from l) (is_possible (next_of (running (flow from l f))) (InLife e))
  where
    by : (b c : Bool)
        → Agrees a (if b then (if c then InLife e ∷ flow from l f else flow from l f) else flow from l f)
    by true true = agrees_idle e a (flow from l f) idle h
    by true false = h
    by false c = h

pub apart_one : (from : Side) (l : ℕ) (side : Side) (lcid : ℕ) (event : AnyEvent) (a : Account) (f : Histories)
    → ApartBy from l side lcid event → Agrees a (flow from l f)
    → Agrees a (flow from l (with_told (record { side = side; lcid = lcid; event = event }) f))
apart_one from l side lcid (Unacked e) a f apart h = h
apart_one from l side lcid (Acked (PduGiven count size)) a f apart h =
    elsewhere from l side lcid (PduGiven count size) a f apart h
apart_one from l side lcid (Acked (InLife e)) a f (inl apart) h = elsewhere from l side lcid (InLife e) a f apart h
apart_one from l side lcid (Acked (InLife e)) a f (inr idle) h = idle_told from l side lcid e a f idle h
apart_one from l side lcid (Acked LifeEnded) a f apart h = elsewhere from l side lcid LifeEnded a f apart h

pub apart_all : (from : Side) (l : ℕ) (ts : List Told) (a : Account) (f : Histories)
    → AllByRecursion (IsApart from l) ts → Agrees a (flow from l f) → Agrees a (flow from l (all_told histories ts f))
apart_all from l [] a f apart h = h
apart_all from l (t ∷ ts) a f apart h =
    apart_all from l ts a (with_told t f) apart.1 (apart_one from l t.side t.lcid t.event a f apart.0 h)

-- ---- what is told of the flow itself

pub told_own : (from : Side) (l : ℕ) (e : LifeEvent) (f : Histories)
    → is_possible (next_of (running (flow from l f))) e ≡ true
    → flow from l (with_told (record { side = from; lcid = l; event = Acked e }) f) ≡ e ∷ flow from l f
told_own from l e f possible =
    by (is_at from l from l) (is_possible (next_of (running (flow from l f))) e) (at_own from l) possible
  where
    by : (b c : Bool) → b ≡ true → c ≡ true
        → (if b then (if c then e ∷ flow from l f else flow from l f) else flow from l f) ≡ e ∷ flow from l f
    by true true p q = refl
    by true false p q = absurd (let bad = q in cc)
    by false c p q = absurd (let bad = p in cc)
