-- What an end tells where it builds no block: nothing of what is written, nothing of the test loop.
use Rattle.std.proofs.Common.{◌≡◌, ℕ, ◌+◌, ◌==◌, Bool, true, false, ◌||◌, if◌then◌else◌, Option, Some}
use Rattle.std.proofs.Common.{None, IfSome, Result, Ok, Err, List, [], ◌∷◌, ◌++◌, length, refl, sym, ◌∙◌}
use Rattle.std.specs.Prelude.{unwrap_or}
use Rattle.std.specs.List.{filter, AllByRecursion}
use Rattle.std.proofs.lemmas.Bool.{or_left, or_right, false≢true}
use Rattle.bearer.specs.Bearer.{Of, Life}
use Rattle.bearer.specs.declared.flow.Flow.{Flow}
use Rattle.bearer.specs.declared.flow.Flow.TheVariants.{Tm, Um, Am}
use Rattle.bearer.specs.Hearing.{arriving, ticking}
use Rattle.bearer.specs.Lives.{stopping}
use Rattle.bearer.specs.Acknowledged.Hearing.{arriving as am_arriving}
use Rattle.bearer_types.specs.declared.event.Event.{Event}
use Rattle.bearer_types.specs.declared.event.Event.TheVariants as events
use Rattle.bearer.specs.Unacknowledged.Hearing.{arriving as um_arriving}
use Rattle.l2_node.specs.End.{End}
use Rattle.bearer_types.specs.Sides.{heard_by}
use Rattle.l2_node.specs.Finding.{find, has, bearer_at}
use Rattle.l2_node.specs.Hearing.{Heard, heard, arrives_at, hears, hears_all, heard_items, received, tells, ticks_at}
use Rattle.l2_node.specs.Hearing.{ticks_over, ticked, bearer_of, expiry}
use Rattle.l2_node.specs.Moving.{all_stopping, leaving}
use Rattle.l2_types.specs.declared.event.Clock.{Clock}
use Rattle.l2_types.specs.declared.event.Lost.TheVariants as lost
use Rattle.mac_pdu.specs.declared.fault.MacRefusal.{MacRefusal}
use Rattle.mac_pdu.specs.Items.{MacItem, front, element, sdu, padding}
use Rattle.mac_pdu.specs.Reading.{reading}
use Rattle.rlc_pdu.specs.declared.fault.RlcWhy.TheVariants.{Short}
use Rattle.rlc_pdu.specs.Reading.{umd_at, am_at}
use Rattle.promises.specs.Events.{is_of_loop, TellNoLoop, is_of_writing}
use Rattle.law_node.specs.Writing.{TellNone, WritesNothing}
use Rattle.law_node.proofs.Elsewhere.{HoldsElsewhere, um_arrived_all, am_arrived_all, IsOfFlow, ticking_all, expiry_all}
use Rattle.law_node.proofs.Elsewhere.{stopping_all}

-- what is told elsewhere
abbrev is_elsewhere : Event → Bool
is_elsewhere event = is_of_writing event || is_of_loop event

abbrev AreQuiet : List Event → Type 0
AreQuiet es = AllByRecursion (λ event. is_elsewhere event ≡ false) es

none_both : (a b : List Event) → AreQuiet a → AreQuiet b → AreQuiet (a ++ b)
none_both [] b p q = q
none_both (event ∷ a) b p q = (p.0, none_both a b p.1 q)

-- ---- a bearer of any kind, of any channel

told : HoldsElsewhere (λ event. is_elsewhere event ≡ false) (λ lcid. Unit {0})
told = record {
  starts = λ lcid clock. refl;
  stops = λ lcid clock. refl;
  expires = λ lcid clock. refl;
  ups = λ lcid sdu o. refl;
  fails = λ lcid sn. refl;
  drops = λ lcid why other. other;
  integrity = λ lcid found wanted. refl;
  bad_rlc = λ lcid fault. refl;
  bad_pdcp = λ lcid fault. refl;
  discards = λ lcid len. refl;
}

of_flow : (f : Flow) → IsOfFlow told f
of_flow (Tm b) = tt
of_flow (Um b) = tt
of_flow (Am b) = tt

tm_none : (b : Bool) (x y : Event) → AreQuiet (x ∷ []) → AreQuiet (y ∷ []) → AreQuiet (if b then x ∷ [] else y ∷ [])
tm_none true x y p q = p
tm_none false x y p q = q

arriving_none : (lcid : ℕ) (f : Flow) (pdu : List ℕ) → AreQuiet (arriving lcid f pdu)
unfolding arriving um_arriving am_arriving
arriving_none lcid (Tm b) pdu =
    tm_none (length pdu == 0) (events.BadRlc lcid (record { at = 0; why = Short })) (events.Up lcid pdu) (refl, tt)
    (refl, tt)
arriving_none lcid (Um b) pdu = um_arrived_all told (umd_at b.bits pdu) b tt
arriving_none lcid (Am b) pdu = am_arrived_all told (am_at pdu) b tt

-- ---- an end

arrives_none : (at : ℕ) (b : Of Life) (pdu : List ℕ) (h : Heard) → AreQuiet h.events
    → AreQuiet (arrives_at at b pdu h).events
arrives_none at b pdu h p =
    none_both h.events (arriving b.channel.lcid b.state.flow pdu) p (arriving_none b.channel.lcid b.state.flow pdu)

sdu_if : (t : Bool) (lcid : ℕ) (pdu : List ℕ) (h : Heard) → AreQuiet h.events
    → AreQuiet (if t then arrives_at (find lcid h.bearers) (bearer_at h.bearers (find lcid h.bearers)) pdu h
    else heard h.bearers (h.events ++ events.Drop lcid lost.NoBearer ∷ [])).events
sdu_if true lcid pdu h p = arrives_none (find lcid h.bearers) (bearer_at h.bearers (find lcid h.bearers)) pdu h p
sdu_if false lcid pdu h p = none_both h.events (events.Drop lcid lost.NoBearer ∷ []) p (refl, tt)

hears_none : (i : MacItem) (h : Heard) → AreQuiet h.events → AreQuiet (hears i h).events
hears_none front h p = p
hears_none (element c) h p = p
hears_none (sdu lcid octets) h p = sdu_if (has lcid h.bearers) lcid octets h p
hears_none (padding n) h p = p

hears_all_none : (is : List MacItem) (h : Heard) → AreQuiet h.events → AreQuiet (hears_all is h).events
hears_all_none [] h p = p
hears_all_none (i ∷ is) h p = hears_all_none is (hears i h) (hears_none i h p)

items_none : (r : Result (List MacItem) MacRefusal) (h : Heard) → AreQuiet h.events → AreQuiet (heard_items r h).events
items_none (Ok items) h p = hears_all_none items h p
items_none (Err refusal) h p = none_both h.events (events.BadMac refusal ∷ []) p (refl, tt)

received_none : (e : End) (block : List ℕ) → AreQuiet (received e block).events
unfolding received
received_none e block = items_none (reading (heard_by e.side) block) (heard e.bearers []) tt

tells_none : (at : ℕ) (b : Of Life) (h : Heard) → AreQuiet h.events → AreQuiet (tells at b h).events
tells_none at b h p = none_both h.events (ticking b.state.flow) p (ticking_all told b.state.flow (of_flow b.state.flow))

over_none : (bs : List (Of Life)) (at : ℕ) (h : Heard) → AreQuiet h.events → AreQuiet (ticks_over bs at h).events
over_none [] at h p = p
over_none (b ∷ bs) at h p = over_none bs (at + 1) (ticks_at at h) (tells_none at (bearer_at h.bearers at) h p)

ticked_none : (e : End) → AreQuiet (ticked e).events
unfolding ticked
ticked_none e = over_none e.bearers 0 (heard e.bearers []) tt

all_stopping_none : (bs : List (Of Life)) → AreQuiet (all_stopping bs)
all_stopping_none [] = tt
all_stopping_none (b ∷ bs) =
    none_both (stopping b.state.flow) (all_stopping bs) (stopping_all told b.state.flow (of_flow b.state.flow))
    (all_stopping_none bs)

end_expiry_none : (lcid : ℕ) (clock : Clock) (e : End) → IfSome (expiry lcid clock e) AreQuiet
unfolding expiry
end_expiry_none lcid clock e =
    expiry_all told (bearer_of lcid e).state.flow clock (of_flow (bearer_of lcid e).state.flow)

leaving_none : (e : End) → AreQuiet (leaving e)
unfolding leaving
leaving_none e = all_stopping_none e.bearers

-- ---- both

none_by : (test : Event → Bool) (b : Bool) (e : Event) (es : List Event) → test e ≡ b
    → (test e ≡ true → is_elsewhere e ≡ true) → is_elsewhere e ≡ false → filter test es ≡ [] → filter test (e ∷ es) ≡ []
none_by test true e es is within quiet rest = absurd (false≢true (sym quiet ∙ within is))
none_by test false e es is within quiet rest = rw is rest

none_of : (test : Event → Bool) → ((e : Event) → test e ≡ true → is_elsewhere e ≡ true) → (es : List Event)
    → AreQuiet es → filter test es ≡ []
none_of test within [] p = refl
none_of test within (e ∷ es) p = none_by test (test e) e es refl (within e) p.0 (none_of test within es p.1)

unwritten : (es : List Event) → AreQuiet es → TellNone es
unwritten es p = none_of is_of_writing (λ e is. or_left (is_of_writing e) (is_of_loop e) is) es p

unlooped : (es : List Event) → AreQuiet es → TellNoLoop es
unlooped es p = none_of is_of_loop (λ e is. or_right (is_of_writing e) (is_of_loop e) is) es p

unwritten_if : (r : Option (List Event)) → IfSome r AreQuiet → IfSome r TellNone
unwritten_if None p = tt
unwritten_if (Some es) p = unwritten es p

unlooped_if : (r : Option (List Event)) → IfSome r AreQuiet → TellNoLoop (unwrap_or r [])
unlooped_if None p = refl
unlooped_if (Some es) p = unlooped es p

pub writes_nothing : (e : End) → WritesNothing e
writes_nothing e = record {
  receiving = λ block. unwritten (received e block).events (received_none e block);
  ticking = unwritten (ticked e).events (ticked_none e);
  expiring = λ lcid clock. unwritten_if (expiry lcid clock e) (end_expiry_none lcid clock e);
  moving = unwritten (leaving e) (leaving_none e);
}

-- the same calls, of the loop
pub record LoopsNothing (e : End) : Type 0 where
  pub receiving : (block : List ℕ) → TellNoLoop (received e block).events
  pub ticking : TellNoLoop (ticked e).events
  pub expiring : (lcid : ℕ) (clock : Clock) → TellNoLoop (unwrap_or (expiry lcid clock e) [])
  pub moving : TellNoLoop (leaving e)

pub loops_nothing : (e : End) → LoopsNothing e
loops_nothing e = record {
  receiving = λ block. unlooped (received e block).events (received_none e block);
  ticking = unlooped (ticked e).events (ticked_none e);
  expiring = λ lcid clock. unlooped_if (expiry lcid clock e) (end_expiry_none lcid clock e);
  moving = unlooped (leaving e) (leaving_none e);
}
