-- As a life of an acknowledged bearer ends nothing fails, and the next one begins with one bearer of the channel.
use Rattle.std.proofs.Common.{◌≡◌, ℕ, Bool, true, false, List, [], ◌∷◌, ◌++◌, map, refl, ap, sym, subst}
use Rattle.std.proofs.Common.{◌∙◌, inl, inr}
use Rattle.std.specs.List.{AllByRecursion}
use Rattle.bearer.specs.Acknowledged.Lives.{Ending, hears_last, ends_with, stopping as am_stopping}
use Rattle.bearer.specs.Acknowledged.State.{State}
use Rattle.bearer.specs.Lives.{stopping}
use Rattle.bearer.specs.declared.flow.Flow.{Flow}
use Rattle.bearer.specs.declared.flow.Flow.TheVariants.{Am}
use Rattle.bearer_pdcp.specs.Hearing.{heard_told}
use Rattle.bearer_types.specs.declared.event.Event.{Event}
use Rattle.bearer_types.specs.declared.event.Event.TheVariants.{Drop, Fail}
use Rattle.l2_node.specs.End.{End, fresh}
use Rattle.l2_types.specs.declared.Lost.TheVariants as lost
use Rattle.l2_types.specs.declared.side.Side.{Side}
use Rattle.l2_types.specs.declared.side.Side.TheVariants.{Nb, Ue}
use Rattle.pdcp_pdu.specs.Kinds.{is_am}
use Rattle.promises.specs.Events.{fails_on}
use Rattle.prioritise.proofs.ChannelLemmas.{both_false}
use Rattle.law_node.specs.Calls.{Call, Move, IsGiven as IsGivenCall, after, run_end}
use Rattle.law_node.specs.Holding.{flow}
use Rattle.law_node.specs.Telling.{told_of}
use Rattle.law_deliver.specs.AmChannel.Lives.{AirStep, lives, AreLiving, all_calls, end_at}
use Rattle.law_deliver.specs.AmFlow.Air.{Air}
use Rattle.law_deliver.specs.AmFlow.Ups.{IsNew, AreNew}
use Rattle.law_deliver.proofs.AmChannel.Ends.{IsCall, are_calls, goes_by_calls}
use Rattle.law_deliver.proofs.AmFlow.Stations.{given_on, run_on}
use Rattle.law_deliver.proofs.AmFlow.Ups.{Stands, the_end}
use Rattle.law_run.proofs.Still.{tell_flow, heard_still}
use Rattle.law_run.specs.TwoEnds.SenderLog.{Tells, telling, is_of_flow}
use Rattle.law_sound.specs.LivedFails.{HasComeNew, LivesComeNew, MovesFailNone}
use Rattle.law_sound.specs.LogLaws.{fails_at, fails_in}
use Rattle.law_sound.proofs.LivedFails.{events_fail, stands_new, lived_there}

-- ---- what a bearer tells as its life ends

abbrev FailNone : List Event → Type 0
FailNone told = fails_in (telling told) ≡ []

both_none : (xs ys : List Event) → FailNone xs → FailNone ys → FailNone (xs ++ ys)
both_none [] ys h k = k
both_none (Fail lcid sn ∷ xs) ys h k = absurd cc
both_none (e ∷ xs) ys h k = both_none xs ys h k

one_none : (e : Event) → is_of_flow e ≡ false → fails_at (Tells e) ≡ []
one_none (Fail lcid sn) h = absurd cc
one_none e h = refl

still_none : (told : List Event) → tell_flow told ≡ false → FailNone told
still_none [] h = refl
still_none (e ∷ told) h =
    let parts = both_false (is_of_flow e) (tell_flow told) h in
    ap (λ (sns : List ℕ). sns ++ fails_in (telling told)) (one_none e parts.0) ∙ still_none told parts.1

hears_none : (sdus : List (List ℕ)) (x : Ending) → FailNone x.events → FailNone (hears_last sdus x).events
hears_none [] x h = h
hears_none (sdu ∷ sdus) x h =
    hears_none sdus _ (both_none x.events _ h (still_none (heard_told sdu _ x.pdcp) (heard_still sdu _ x.pdcp)))

drops_none : (lcid : ℕ) (sdus : List (List ℕ)) → FailNone (map (λ sdu. Drop lcid lost.Handover) sdus)
drops_none lcid [] = refl
drops_none lcid (sdu ∷ sdus) = drops_none lcid sdus

ends_none : (b : Bool) (sdus : List (List ℕ)) (x : Ending) → FailNone x.events → FailNone (ends_with b sdus x).events
ends_none true sdus x h = hears_none sdus x h
ends_none false sdus x h = both_none x.events _ h (drops_none x.pdcp.lcid sdus)

stops_none : (b : State) → FailNone (stopping (Am b))
unfolding stopping am_stopping
stops_none b = ends_none (is_am b.pdcp.kind) _ (record { pdcp = b.pdcp; events = [] }) refl

move_none : (side : Side) (l : ℕ) (e : End) (b : State) (keys : _) → Stands side l e → flow l e ≡ Am b
    → fails_on l (told_of e (Move keys)) ≡ []
move_none side l e b keys s is =
    events_fail l (told_of e (Move keys))
    ∙ (ap (λ (told : List Event). fails_in (telling told))
    ((the_end side l e keys s).told_is ∙ ap (λ (f : Flow). stopping f) is) ∙ stops_none b)

pub moves_fail_none : MovesFailNone
moves_fail_none l Nb keys a m new h =
    let flows = h.air.by_air.flows in
    move_none Nb l a.nb.end flows.down.from_bearer keys (stands_new Nb l a.nb.end new.nb (lived_there l a m h).nb)
    flows.down.from_is
moves_fail_none l Ue keys a m new h =
    let flows = h.air.by_air.flows in
    move_none Ue l a.ue.end flows.up.from_bearer keys (stands_new Ue l a.ue.end new.ue (lived_there l a m h).ue)
    flows.up.from_is

-- ---- a bearer of the channel is added only if there is none

record IsCallNew (l : ℕ) (e : End) (c : Call) : Type 0 where
  given : IsGivenCall c
  new : IsNew l e c

call_new : (l : ℕ) (e : End) (c : Call) → IsCall l c → IsCallNew l e c
call_new l e c (inl g) =
    record { given = g.0; new = λ q. let no : true ≡ false = sym q ∙ g.1.adds_none in absurd cc }
call_new l e c (inr (keys, is)) =
    subst (IsCallNew l e) (sym is) (record { given = tt; new = λ q. let no : false ≡ true = q in absurd cc })

new_then : (l : ℕ) (cs ds : List Call) (e : End) → AreNew l cs e → AreNew l ds (run_end cs e) → AreNew l (cs ++ ds) e
new_then l [] ds e h k = k
new_then l (c ∷ cs) ds e h k = (h.0, new_then l cs ds (after e c) h.1 k)

calls_come : (side : Side) (l : ℕ) (cs : List Call) (e : End) → AllByRecursion (IsCall l) cs → HasComeNew side l e
    → HasComeNew side l (run_end cs e)
calls_come side l [] e all h = h
calls_come side l (c ∷ cs) e all h =
    let one = call_new l e c all.0 in
    let come = h.come in
    calls_come side l cs (after e c) all.1
    (record {
      come = record {
        maximum = come.maximum;
        reports = come.reports;
        past = come.past ++ c ∷ [];
        given = given_on come.past c come.given one.given;
        end_is = ap (λ (z : End). after z c) come.end_is
            ∙ sym (run_on come.past (c ∷ []) (fresh side come.maximum come.reports));
      };
      new = new_then l come.past (c ∷ []) (fresh side come.maximum come.reports) h.new
          (subst (λ (z : End). IsNew l z c) come.end_is one.new, tt);
    })

side_comes : (l : ℕ) (side : Side) (xs : List AirStep) (a : Air) → AreLiving l a xs
    → HasComeNew side l (end_at side a) → HasComeNew side l (end_at side (lives xs a))
side_comes l side xs a living h =
    subst (HasComeNew side l) (sym (goes_by_calls side xs a))
    (calls_come side l (all_calls side xs a) (end_at side a) (are_calls l side xs a living) h)

pub lives_come_new : LivesComeNew
lives_come_new l xs a h living =
    record { nb = side_comes l Nb xs a living h.nb; ue = side_comes l Ue xs a living h.ue }
