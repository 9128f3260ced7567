-- An end hands up on LCID 0 what a block carries that it hears, and nothing else.
use Rattle.std.proofs.Common.{◌≡◌, ℕ, ◌+◌, ◌==◌, Bool, true, false, cond, if◌then◌else◌, Option, Some, None, IfSome}
use Rattle.std.proofs.Common.{Result, Ok, Err, List, [], ◌∷◌, ◌++◌, append_assoc, append-nil, refl, ap, sym, subst, ◌∙◌}
use Rattle.std.proofs.Common.{arith}
use Rattle.std.proofs.lemmas.Bool.Decides.{nat_tests}
use Rattle.std.specs.Prelude.{unwrap_or}
use Rattle.std.specs.List.{filter, flat_map}
use Rattle.air_record.specs.declared.record.Record.{Record}
use Rattle.bearer.specs.Bearer.{Of, of, Life, alive}
use Rattle.bearer.specs.Hearing.{arriving, ticking, ticked as flow_ticked}
use Rattle.bearer.specs.Lives.{stopping}
use Rattle.bearer_types.specs.declared.event.Event.{Event}
use Rattle.bearer_types.specs.declared.event.Event.TheVariants as events
use Rattle.l2_node.specs.End.{End, fresh}
use Rattle.bearer_types.specs.Sides.{heard_by}
use Rattle.l2_node.specs.Finding.{find, has, bearer_at}
use Rattle.l2_node.specs.Hearing.{Heard, heard, hears_sdu, hears, hears_all, heard_items, received, ticks_at}
use Rattle.l2_node.specs.Hearing.{ticks_over, ticked, bearer_of, expiry}
use Rattle.l2_node.specs.Moving.{all_stopping, leaving}
use Rattle.l2_types.specs.declared.event.Clock.{Clock}
use Rattle.l2_types.specs.declared.event.Lost.TheVariants as lost
use Rattle.l2_types.specs.declared.side.Side.{Side}
use Rattle.mac_pdu.specs.declared.fault.MacRefusal.{MacRefusal}
use Rattle.mac_pdu.specs.Items.{MacItem, front, element, sdu, padding}
use Rattle.mac_pdu.specs.Reading.{reading}
use Rattle.law_node.specs.Bearers.{adds, AddNone}
use Rattle.law_node.specs.Calls.{Call as EndCall, SetVisits, SetReports, Add, Submit, SetDiscard, Tick, TickBuckets}
use Rattle.law_node.specs.Calls.{Visits, Grants, Granted, Assigned, Pass, Receive, Expire, Move, AreGiven}
use Rattle.law_node.specs.Calls.{after as after_call, run_end, reached}
use Rattle.law_node.proofs.Going.{item_goes, run_goes}
use Rattle.law_node.proofs.Keeping.{AllAre, at_is, set_are, item_are, call_are, reached_are}
use Rattle.law_node.proofs.Living.{call_side}
use Rattle.law_node.proofs.Owning.{IsOwn, own_kept}
use Rattle.law_node.proofs.Places.{found}
use Rattle.law_node.proofs.Sound.{HasSoundChannels, call_channels_sound, reached_channels_sound}
use Rattle.law_run.specs.AnyCalls.Ends.{begins_life, ByCalls, LivesOn}
use Rattle.law_run.specs.AnyCalls.Zero.{HasCome}
use Rattle.promises.specs.Zero.{carried_in, carried_by, carried}
use Rattle.law_run.proofs.AnyCalls.Blocks.{reached_whole}
use Rattle.law_run.proofs.AnyCalls.Going.{run_on, given_on}
use Rattle.law_run.proofs.AnyCalls.Others.{zeros, zeros_then, AreOthers, none_both, IsPlain, plain_kept, arriving_zeros}
use Rattle.law_run.proofs.AnyCalls.Others.{ticking_none, expiry_none, stopping_none}

-- ---- bearers of their own channels, of which only that of LCID 0 is transparent

pub record ArePlain (bs : List (Of Life)) : Type 0 where
  pub own : AllAre IsOwn bs
  pub plain : AllAre IsPlain bs

-- ---- a block comes

item_plain : (i : MacItem) (h : Heard) → ArePlain h.bearers → ArePlain (hears i h).bearers
item_plain i h p = record { own = item_are IsOwn own_kept i h p.own; plain = item_are IsPlain plain_kept i h p.plain }

-- an SDU of LCID 0 finds the bearer, one of another channel hands nothing up there
abbrev if_known : Bool → List (List ℕ) → List (List ℕ)
if_known known sdus = if known then sdus else []

none_known : (known : Bool) → if_known known [] ≡ []
none_known true = refl
none_known false = refl

both_known : (known : Bool) (a b : List (List ℕ)) → if_known known (a ++ b) ≡ if_known known a ++ if_known known b
both_known true a b = refl
both_known false a b = refl

same_channel : (lcid : ℕ) → (lcid == 0) ≡ true → lcid ≡ 0
same_channel lcid e = grind (arith, nat_tests)

sdu_known : (first there known : Bool) (lcid : ℕ) (pdu : List ℕ) → (lcid == 0) ≡ first
    → (first ≡ true → there ≡ known) → (if_known there (carried_in (sdu lcid pdu)))
    ≡ if_known known (carried_in (sdu lcid pdu))
sdu_known true there known lcid pdu e same = ap (λ (b : Bool). if_known b (carried_in (sdu lcid pdu))) (same refl)
sdu_known false there known lcid pdu e same = rw e (none_known there ∙ sym (none_known known))

sdu_zeros : (there : Bool) (lcid : ℕ) (pdu : List ℕ) (h : Heard) → has lcid h.bearers ≡ there → ArePlain h.bearers
    → zeros (hears_sdu lcid pdu h).events ≡ zeros h.events ++ if_known there (carried_in (sdu lcid pdu))
sdu_zeros true lcid pdu h e p =
    let at = find lcid h.bearers in
    let b = bearer_at h.bearers at in
    let told : zeros (arriving b.channel.lcid b.state.flow pdu) ≡ carried_in (sdu lcid pdu) =
    arriving_zeros b.channel.lcid b.state.flow pdu (at_is IsOwn h.bearers at own_kept p.own)
    (at_is IsPlain h.bearers at plain_kept p.plain)
    ∙ ap (λ (n : ℕ). carried_in (sdu n pdu)) (found lcid h.bearers e) in
    rw e (zeros_then h.events (arriving b.channel.lcid b.state.flow pdu)
    ∙ ap (λ (x : List (List ℕ)). zeros h.events ++ x) told)
sdu_zeros false lcid pdu h e p = rw e (zeros_then h.events (events.Drop lcid lost.NoBearer ∷ []))

item_zeros : (known : Bool) (i : MacItem) (h : Heard) → has 0 h.bearers ≡ known → ArePlain h.bearers
    → zeros (hears i h).events ≡ zeros h.events ++ if_known known (carried_in i)
item_zeros known front h there p = sym (append-nil (zeros h.events))
    ∙ ap (λ (x : List (List ℕ)). zeros h.events ++ x) (sym (none_known known))
item_zeros known (element c) h there p = sym (append-nil (zeros h.events))
    ∙ ap (λ (x : List (List ℕ)). zeros h.events ++ x) (sym (none_known known))
item_zeros known (padding n) h there p = sym (append-nil (zeros h.events))
    ∙ ap (λ (x : List (List ℕ)). zeros h.events ++ x) (sym (none_known known))
item_zeros known (sdu lcid pdu) h there p =
    sdu_zeros (has lcid h.bearers) lcid pdu h refl p
    ∙ ap (λ (x : List (List ℕ)). zeros h.events ++ x)
    (sdu_known (lcid == 0) (has lcid h.bearers) known lcid pdu refl
    (λ e. ap (λ (n : ℕ). has n h.bearers) (same_channel lcid e) ∙ there))

items_zeros : (known : Bool) (is : List MacItem) (h : Heard) → has 0 h.bearers ≡ known → ArePlain h.bearers
    → zeros (hears_all is h).events ≡ zeros h.events ++ if_known known (flat_map carried_in is)
items_zeros known [] h there p = sym (append-nil (zeros h.events))
    ∙ ap (λ (x : List (List ℕ)). zeros h.events ++ x) (sym (none_known known))
items_zeros known (i ∷ is) h there p =
    let a = if_known known (carried_in i) in
    let b = if_known known (flat_map carried_in is) in
    items_zeros known is (hears i h) ((item_goes 0 i h).has_is ∙ there) (item_plain i h p)
    ∙ ap (λ (x : List (List ℕ)). x ++ b) (item_zeros known i h there p)
    ∙ append_assoc (zeros h.events) a b
    ∙ ap (λ (x : List (List ℕ)). zeros h.events ++ x) (sym (both_known known (carried_in i) (flat_map carried_in is)))

block_zeros : (known : Bool) (r : Result (List MacItem) MacRefusal) (h : Heard) → zeros h.events ≡ []
    → has 0 h.bearers ≡ known → ArePlain h.bearers → zeros (heard_items r h).events ≡ if_known known (carried_by r)
block_zeros known (Ok items) h none there p = items_zeros known items h there p
    ∙ ap (λ (x : List (List ℕ)). x ++ if_known known (flat_map carried_in items)) none
block_zeros known (Err refusal) h none there p = none_both h.events (events.BadMac refusal ∷ []) none refl
    ∙ sym (none_known known)

-- ---- an end, with or without a bearer of LCID 0

pub record Stands (known : Bool) (side : Side) (e : End) : Type 0 where
  pub side_is : e.side ≡ side
  pub sound : HasSoundChannels e
  pub bearers : ArePlain e.bearers
  pub there : has 0 e.bearers ≡ known

pub received_zeros : (known : Bool) (side : Side) (e : End) (block : List ℕ) → Stands known side e
    → zeros (received e block).events ≡ if_known known (carried side block)
unfolding received
received_zeros known side e block s =
    block_zeros known (reading (heard_by e.side) block) (heard e.bearers []) refl s.there s.bearers
    ∙ ap (λ (x : Side). if_known known (carried x block)) s.side_is

-- ---- what else an end tells

ticks_plain : (bs : List (Of Life)) (at : ℕ) (h : Heard) → ArePlain h.bearers → AreOthers h.events
    → AreOthers (ticks_over bs at h).events
ticks_plain [] at h p none = none
ticks_plain (b ∷ bs) at h p none =
    let x = bearer_at h.bearers at in
    let own = at_is IsOwn h.bearers at own_kept p.own in
    let plain = at_is IsPlain h.bearers at plain_kept p.plain in
    let y = of x.channel (alive (flow_ticked x.state.flow)) in
    ticks_plain bs (at + 1) (ticks_at at h)
    (record {
      own = set_are IsOwn h.bearers at y p.own (own_kept.ticks x.channel.lcid x.state.flow own);
      plain = set_are IsPlain h.bearers at y p.plain (plain_kept.ticks x.channel.lcid x.state.flow plain);
    })
    (none_both h.events (ticking x.state.flow) none (ticking_none x.channel.lcid x.state.flow own plain))

pub ticked_others : (known : Bool) (side : Side) (e : End) → Stands known side e → AreOthers (ticked e).events
unfolding ticked
ticked_others known side e s = ticks_plain e.bearers 0 (heard e.bearers []) s.bearers refl

others_if : (r : Option (List Event)) → IfSome r AreOthers → AreOthers (unwrap_or r [])
others_if None p = refl
others_if (Some told) p = p

pub expiry_others : (known : Bool) (side : Side) (e : End) (lcid : ℕ) (clock : Clock) → Stands known side e
    → AreOthers (unwrap_or (expiry lcid clock e) [])
unfolding expiry
expiry_others known side e lcid clock s =
    let at = find lcid e.bearers in
    let b = bearer_of lcid e in
    others_if _ (expiry_none b.channel.lcid b.state.flow clock (at_is IsOwn e.bearers at own_kept s.bearers.own)
    (at_is IsPlain e.bearers at plain_kept s.bearers.plain))

stopping_plain : (bs : List (Of Life)) → AllAre IsOwn bs → AllAre IsPlain bs → AreOthers (all_stopping bs)
stopping_plain [] own plain = refl
stopping_plain (b ∷ bs) own plain =
    none_both (stopping b.state.flow) (all_stopping bs) (stopping_none b.channel.lcid b.state.flow own.0 plain.0)
    (stopping_plain bs own.1 plain.1)

pub leaving_others : (known : Bool) (side : Side) (e : End) → Stands known side e → AreOthers (leaving e)
unfolding leaving
leaving_others known side e s = stopping_plain e.bearers s.bearers.own s.bearers.plain

-- ---- through calls

stands_run : (known : Bool) (side : Side) (cs : List EndCall) (e : End) → AreGiven cs → AddNone 0 cs
    → Stands known side e → Stands known side (run_end cs e)
stands_run known side [] e g free s = s
stands_run known side (c ∷ cs) e g free s =
    stands_run known side cs (after_call e c) g.1 free.1
    (record {
      side_is = call_side e c ∙ s.side_is;
      sound = call_channels_sound e c g.0 s.sound;
      bearers = record {
        own = call_are IsOwn own_kept e c g.0 s.sound.buckets_are s.bearers.own;
        plain = call_are IsPlain plain_kept e c g.0 s.sound.buckets_are s.bearers.plain;
      };
      there = (run_goes 0 (c ∷ []) e (g.0, tt) s.sound s.bearers.own (free.0, tt)).has_is ∙ s.there;
    })

-- calls that begin no life add no bearer
adds_none : (c : EndCall) → begins_life c ≡ false → adds 0 c ≡ false
adds_none (Add config keys) e = let no : true ≡ false = e in cc
adds_none (SetVisits maximum) e = refl
adds_none (SetReports reports) e = refl
adds_none (Submit lcid octets) e = refl
adds_none (SetDiscard lcid ttis) e = refl
adds_none Tick e = refl
adds_none TickBuckets e = refl
adds_none (Visits t) e = refl
adds_none (Grants tti) e = refl
adds_none (Granted tti good) e = refl
adds_none (Assigned tti ndi good) e = refl
adds_none (Pass tti) e = refl
adds_none (Receive block) e = refl
adds_none (Expire lcid clock) e = refl
adds_none (Move keys) e = refl

free_by : (b : Bool) (c : EndCall) (cs : List EndCall) → begins_life c ≡ b
    → AddNone 0 (cond b (c ∷ filter begins_life cs) (filter begins_life cs))
    → (AddNone 0 (filter begins_life cs) → AddNone 0 cs) → AddNone 0 (c ∷ cs)
free_by true c cs e f rest = (f.0, rest f.1)
free_by false c cs e f rest = (adds_none c e, rest f)

free_of : (cs : List EndCall) → AddNone 0 (filter begins_life cs) → AddNone 0 cs
free_of [] f = tt
free_of (c ∷ cs) f = free_by (begins_life c) c cs refl f (free_of cs)

pub stands_on : (known : Bool) (side : Side) (told : List Record) (e f : End) → LivesOn [] side told e f
    → Stands known side e → Stands known side f
stands_on known side told e f k s =
    subst (λ (x : End). Stands known side x) (sym k.by.end_is)
    (stands_run known side k.by.calls e k.by.given
    (free_of k.by.calls (subst (λ (x : List EndCall). AddNone 0 x) (sym k.lives_are) tt)) s)

-- an end that has come by calls
pub come_stands : (side : Side) (e : End) → HasCome side e → Stands (has 0 e.bearers) side e
come_stands side e h =
    let r = reached side h.maximum h.reports h.calls in
    let s : Stands (has 0 r.bearers) side r = record {
      side_is = (reached_whole side h.maximum h.reports h.calls).side_is;
      sound = reached_channels_sound side h.maximum h.reports h.calls h.given;
      bearers = record {
        own = reached_are IsOwn own_kept side h.maximum h.reports h.calls h.given;
        plain = reached_are IsPlain plain_kept side h.maximum h.reports h.calls h.given;
      };
      there = refl;
    } in
    subst (λ (x : End). Stands (has 0 x.bearers) side x) (sym h.end_is) s

-- through calls with which lives begin, but none of a bearer of LCID 0
pub zero_stays : (lives : List EndCall) (side : Side) (told : List Record) (e f : End) → LivesOn lives side told e f
    → AddNone 0 lives → HasCome side e → has 0 f.bearers ≡ has 0 e.bearers
zero_stays lives side told e f k free h =
    ap (λ (x : End). has 0 x.bearers) k.by.end_is
    ∙ (stands_run (has 0 e.bearers) side k.by.calls e k.by.given
    (free_of k.by.calls (subst (λ (x : List EndCall). AddNone 0 x) (sym k.lives_are) free))
    (come_stands side e h)).there

pub come_on : (side : Side) (told : List Record) (e f : End) → ByCalls side told e f → HasCome side e → HasCome side f
come_on side told e f k h = record {
  maximum = h.maximum;
  reports = h.reports;
  calls = h.calls ++ k.calls;
  given = given_on h.calls k.calls h.given k.given;
  end_is = k.end_is ∙ ap (run_end k.calls) h.end_is ∙ sym (run_on h.calls k.calls (fresh side h.maximum h.reports));
}
