-- In a handover nothing is told of what PDCP gives, of PDUs and of blocks.
use Rattle.std.proofs.Common.{◌≡◌, ℕ, Bool, true, false, List, [], ◌∷◌, ◌++◌, map, refl, ap, sym, ◌∙◌, inl, inr}
use Rattle.std.proofs.Common.{subst}
use Rattle.std.specs.List.{AllByRecursion, All}
use Rattle.std.proofs.lemmas.List.Elements.{All-head, All-tail}
use Rattle.l2_types.specs.declared.event.Lost.TheVariants as losts
use Rattle.l2_types.specs.declared.side.Side.{Side}
use Rattle.l2_types.specs.declared.side.Side.TheVariants.{Nb, Ue}
use Rattle.bearer_types.specs.declared.event.Event.{Event}
use Rattle.bearer_types.specs.declared.event.Event.TheVariants as events
use Rattle.bearer_types.specs.Sides.{is_same}
use Rattle.air_record.specs.declared.record.Record.{Record}
use Rattle.air_record.specs.declared.record.Record.TheVariants as records
use Rattle.law_words.specs.Arrivals.{AccountEntry}
use Rattle.law_words.specs.BearerOrder.{at_the_end, is_srb, of_an_sdu, an_up}
use Rattle.law_words.specs.Sequences.{many, joined, each}
use Rattle.promises.specs.Arrival.{entries_at, entries_in, only_if}
use Rattle.promises.specs.Events.{told_on}
use Rattle.promises.specs.Given.{entries_given}
use Rattle.promises.specs.Names.{SentPdu}
use Rattle.promises.specs.Order.{EndTells, LoopTells, IsOfLoop, HandoverTells, Channels, of_leaving}
use Rattle.promises.specs.Records.{sent_last}
use Rattle.promises.specs.SentNumbers.{sent_in}
use Rattle.law_bearer.proofs.AnyBearer.SenderCalls.{all_then}
use Rattle.law_deliver.proofs.AmFlow.Loads.{each as each_still}
use Rattle.law_sound.proofs.Given.{none_given}
use Rattle.law_sound.proofs.Records.{none_sent_by, sent_next}

-- ---- events and records

abbrev pub IsStillEvent : Event → Type 0
IsStillEvent (events.Take lcid count len) = ⊥
IsStillEvent (events.Report lcid fms bitmap) = ⊥
IsStillEvent (events.Send lcid how sn) = ⊥
IsStillEvent event = Unit {0}

abbrev pub AreStillEvents : List Event → Type 0
AreStillEvents told = AllByRecursion IsStillEvent told

abbrev pub IsStill : Record → Type 0
IsStill (records.Of side event) = IsStillEvent event
IsStill (records.Block way process fresh version octets) = ⊥
IsStill (records.Air way what heard) = ⊥
IsStill one = Unit {0}

abbrev pub AreStill : List Record → Type 0
AreStill told = AllByRecursion IsStill told

-- what is told as SDUs go up, or are dropped
abbrev pub IsGoneEvent : Event → Type 0
IsGoneEvent (events.Up lcid sdu) = Unit {0}
IsGoneEvent (events.Drop lcid losts.Ignored) = ⊥
IsGoneEvent (events.Drop lcid why) = Unit {0}
IsGoneEvent (events.Integrity lcid found wanted) = Unit {0}
IsGoneEvent (events.BadPdcp lcid fault) = Unit {0}
IsGoneEvent event = ⊥

abbrev AreGoneEvents : List Event → Type 0
AreGoneEvents told = AllByRecursion IsGoneEvent told

abbrev pub IsGone : Record → Type 0
IsGone (records.Of side event) = IsGoneEvent event
IsGone (records.Block way process fresh version octets) = ⊥
IsGone (records.Air way what heard) = ⊥
IsGone one = Unit {0}

abbrev pub AreGone : List Record → Type 0
AreGone told = AllByRecursion IsGone told

event_still : (event : Event) → IsGoneEvent event → IsStillEvent event
event_still (events.Take lcid count len) h = absurd h
event_still (events.Report lcid fms bitmap) h = absurd h
event_still (events.Send lcid how sn) h = absurd h
event_still event h = tt

record_still : (one : Record) → IsGone one → IsStill one
record_still (records.Of side event) h = event_still event h
record_still (records.Block way process fresh version octets) h = absurd h
record_still (records.Air way what heard) h = absurd h
record_still one h = tt

-- ---- they tell of nothing

event_none : (bits l : ℕ) (b : Bool) (event : Event) → IsStillEvent event
    → only_if b (entries_given bits (told_on l (event ∷ []))) ≡ []
event_none bits l b (events.Take lcid count len) h = absurd h
event_none bits l b (events.Report lcid fms bitmap) h = absurd h
event_none bits l b event h = none_given bits l b event refl

still_one : (bits l : ℕ) (from : Side) (sent : List ℕ) (one : Record) → IsStill one
    → entries_at bits l from sent one ≡ []
still_one bits l from sent (records.Of side event) h = event_none bits l (is_same side from) event h
still_one bits l from sent (records.Block way process fresh version octets) h = absurd h
still_one bits l from sent (records.Air way what heard) h = absurd h
still_one bits l from sent one h = refl

pub still_entries : (bits l : ℕ) (from : Side) (told : List Record) (sent : List ℕ) → AreStill told
    → entries_in bits l from sent told ≡ []
still_entries bits l from [] sent h = refl
still_entries bits l from (one ∷ told) sent h =
    ap (λ (hs : List AccountEntry). hs ++ entries_in bits l from (sent_last one sent) told)
    (still_one bits l from sent one h.0)
    ∙ still_entries bits l from told (sent_last one sent) h.1

event_sent : (from side : Side) (event : Event) → IsStillEvent event → sent_in from (records.Of side event ∷ []) ≡ []
event_sent from side (events.Send lcid how sn) h = absurd h
event_sent from side event h = none_sent_by from side event refl

one_sent : (from : Side) (one : Record) → IsStill one → sent_in from (one ∷ []) ≡ []
one_sent from (records.Of side event) h = event_sent from side event h
one_sent from one h = refl

pub still_sent : (from : Side) (told : List Record) → AreStill told → sent_in from told ≡ []
still_sent from [] h = refl
still_sent from (one ∷ told) h =
    sent_next from one told
    ∙ ap (λ (ss : List SentPdu). ss ++ sent_in from told) (one_sent from one h.0) ∙ still_sent from told h.1

-- ---- sequences of them

pub events_both : (xs ys : List Event) → AreStillEvents xs → AreStillEvents ys → AreStillEvents (xs ++ ys)
events_both [] ys h k = k
events_both (x ∷ xs) ys h k = (h.0, events_both xs ys h.1 k)

pub still_both : (xs ys : List Record) → AreStill xs → AreStill ys → AreStill (xs ++ ys)
still_both [] ys h k = k
still_both (x ∷ xs) ys h k = (h.0, still_both xs ys h.1 k)

module _ (P : Event → Type 0) where
  joined_all : (A : List Event → Type 0) → ((xs : List Event) → A xs → AllByRecursion P xs)
      → (parts : List (List Event)) → All A parts → AllByRecursion P (joined parts)
  joined_all A each [] all = tt
  joined_all A each (part ∷ parts) all =
      all_then P part (joined parts) (each part (All-head A part parts all))
      (joined_all A each parts (All-tail A part parts all))

  many_all : (A : List Event → Type 0) → ((xs : List Event) → A xs → AllByRecursion P xs) → (told : List Event)
      → many A told → AllByRecursion P told
  many_all A each told h = subst (AllByRecursion P) (sym h.told_are) (joined_all A each h.parts h.are_each)

  one_all : (event : Event) (told : List Event) → P event → told ≡ event ∷ [] → AllByRecursion P told
  one_all event told h e = subst (AllByRecursion P) (sym e) (h, tt)

pub many_still : (A : List Event → Type 0) → ((xs : List Event) → A xs → AreStillEvents xs) → (told : List Event)
    → many A told → AreStillEvents told
many_still = many_all IsStillEvent

pub one_still : (event : Event) (told : List Event) → IsStillEvent event → told ≡ event ∷ [] → AreStillEvents told
one_still = one_all IsStillEvent

one_gone : (event : Event) (told : List Event) → IsGoneEvent event → told ≡ event ∷ [] → AreGoneEvents told
one_gone = one_all IsGoneEvent

up_gone : (lcid : ℕ) (told : List Event) → an_up lcid told → AreGoneEvents told
up_gone lcid told (sdu, e) = one_gone (events.Up lcid sdu) told tt e

sdu_gone : (lcid : ℕ) (told : List Event) → of_an_sdu lcid told → AreGoneEvents told
sdu_gone lcid told (inl ups) = many_all IsGoneEvent (an_up lcid) (up_gone lcid) told ups
sdu_gone lcid told (inr (inl e)) = one_gone (events.Drop lcid losts.Old) told tt e
sdu_gone lcid told (inr (inr (inl e))) = one_gone (events.Drop lcid losts.Range) told tt e
sdu_gone lcid told (inr (inr (inr (inl e)))) = one_gone (events.Drop lcid losts.Report) told tt e
sdu_gone lcid told (inr (inr (inr (inr (inl (found, (wanted, e))))))) =
    one_gone (events.Integrity lcid found wanted) told tt e
sdu_gone lcid told (inr (inr (inr (inr (inr (fault, e)))))) = one_gone (events.BadPdcp lcid fault) told tt e

pub sdu_still : (lcid : ℕ) (told : List Event) → of_an_sdu lcid told → AreStillEvents told
sdu_still lcid told h = each_still IsGoneEvent IsStillEvent event_still told (sdu_gone lcid told h)

end_gone : (srb : Bool) (lcid : ℕ) (told : List Event) → at_the_end srb lcid told → AreGoneEvents told
end_gone true lcid told h =
    many_all IsGoneEvent (λ xs. xs ≡ events.Drop lcid losts.Handover ∷ [])
    (λ xs e. one_gone (events.Drop lcid losts.Handover) xs tt e) told h
end_gone false lcid told h = many_all IsGoneEvent (of_an_sdu lcid) (sdu_gone lcid) told h

leaving_gone : (lcids : List ℕ) (told : List Event) → each (λ lcid. at_the_end (is_srb lcid) lcid) lcids told
    → AreGoneEvents told
leaving_gone [] told h = subst AreGoneEvents (sym h) tt
leaving_gone (lcid ∷ lcids) told h =
    subst AreGoneEvents (sym h.told_are)
    (all_then IsGoneEvent h.first h.second (end_gone (is_srb lcid) lcid h.first h.is_first)
    (leaving_gone lcids h.second h.is_second))

-- ---- a handover

pub side_still : (side : Side) (told : List Event) → AreStillEvents told → AreStill (map (records.Of side) told)
side_still side [] h = tt
side_still side (event ∷ told) h = (h.0, side_still side told h.1)

side_gone : (side : Side) (told : List Event) → AreGoneEvents told → AreGone (map (records.Of side) told)
side_gone side [] h = tt
side_gone side (event ∷ told) h = (h.0, side_gone side told h.1)

tells_gone : (side : Side) (c : Channels) (told : List Record) → EndTells side (of_leaving c) told → AreGone told
tells_gone side c told h =
    subst AreGone (sym h.told_is) (side_gone side h.events (leaving_gone c.by_lcid h.events h.in_order))

loop_one : (one : Record) → IsOfLoop one → IsGone one
loop_one (records.Looped lcid octets) h = tt
loop_one (records.Of Ue (events.Drop lcid losts.Loop)) h = tt
loop_one one h = absurd h

loop_gone : (told : List Record) → LoopTells told → AreGone told
loop_gone [] h = tt
loop_gone (one ∷ told) h = (loop_one one h.0, loop_gone told h.1)

pub handover_gone : (c : Side → Channels) (told : List Record) → HandoverTells c told → AreGone told
handover_gone c told h =
    subst AreGone (sym h.told_are)
    (all_then IsGone h.first h.second (tells_gone Nb (c Nb) h.first h.is_first)
    (subst AreGone (sym h.is_second.told_are)
    (all_then IsGone h.is_second.first h.is_second.second
    (tells_gone Ue (c Ue) h.is_second.first h.is_second.is_first)
    (loop_gone h.is_second.second h.is_second.is_second))))

pub gone_still : (told : List Record) → AreGone told → AreStill told
gone_still told h = each_still IsGone IsStill record_still told h

pub loop_still : (told : List Record) → LoopTells told → AreStill told
loop_still told h = gone_still told (loop_gone told h)

pub handover_still : (c : Side → Channels) (told : List Record) → HandoverTells c told → AreStill told
handover_still c told h = gone_still told (handover_gone c told h)
