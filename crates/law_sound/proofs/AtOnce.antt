-- A block that is got was sent last of all, where records stand in their order.
use Rattle.std.proofs.Common.{◌≡◌, ◌⊎◌, ℕ, ◌%◌, Bool, true, false, List, [], ◌∷◌, ◌++◌, refl, ap}
use Rattle.std.proofs.Common.{map, zero, suc, ◌+◌, Option, Some, is_some, sym, ◌∙◌, inl, inr, subst, if◌then◌else◌}
use Rattle.std.proofs.lemmas.Bool.{true≢false}
use Rattle.l2_types.specs.declared.side.Side.{Side}
use Rattle.l2_types.specs.declared.side.Side.TheVariants.{Nb, Ue}
use Rattle.mac_pdu.specs.Reading.{reading}
use Rattle.bearer_types.specs.declared.event.Event.{Event}
use Rattle.bearer_types.specs.Sides.{is_same, sent_by, heard_by, sender_of, other}
use Rattle.air_record.specs.declared.line.Line.{Line}
use Rattle.air_record.specs.declared.line.Line.TheVariants as lines
use Rattle.air_record.specs.declared.record.Arrived.{Arrived}
use Rattle.air_record.specs.declared.record.Arrived.TheVariants as arriveds
use Rattle.air_record.specs.declared.record.Record.{Record}
use Rattle.air_record.specs.declared.record.Record.TheVariants as records
use Rattle.air_text.specs.Groups.{Group}
use Rattle.pdu_show.specs.declared.kinds.Layout.{Layout}
use Rattle.pdu_show.specs.Show.{block_shown}
use Rattle.promises.specs.Air.{InTurn, ttis}
use Rattle.promises.specs.Blocks.{kinds}
use Rattle.promises.specs.Order.{Channels, GoesOut, IsHeard, PassesOver, MayPassOver, BothPassOver, TtiTells}
use Rattle.promises.specs.Order.{DrainTtiTells, LoopTells, SubmitTells, ForgeTells}
use Rattle.promises.specs.Records.{is_got}
use Rattle.promises.specs.Telling.{RoundTells, DrainTells, LineTells, channels, LinesTell}
use Rattle.promises.proofs.ShownBlocks.{AllShown, block_shows}
use Rattle.law_sound.proofs.Flying.{Flying, with_new, with_again, with_other, AreFlown, AreSent}
use Rattle.law_sound.proofs.Quiet.{timers_tell, hearing_tells, expiry_tells, receivers_tell, senders_tell}
use Rattle.law_sound.proofs.Still.{AreStill, loop_still, handover_still}

-- ---- whether the last block that was told is the side's own

abbrev own_last : Side → Record → Bool → Bool
own_last from (records.Block way p fresh version octets) b = is_same (sender_of way) from
own_last from one b = b

abbrev all_last : Side → List Record → Bool → Bool
all_last from [] b = b
all_last from (one ∷ told) b = all_last from told (own_last from one b)

abbrev IsAtOnce : Side → Record → Bool → Type 0
IsAtOnce from (records.Air way what good) b = is_same (sender_of way) from ≡ true → is_got what ≡ true → b ≡ true
IsAtOnce from one b = Unit {0}

abbrev pub AreAtOnce : Side → List Record → Bool → Type 0
AreAtOnce from [] b = Unit {0}
AreAtOnce from (one ∷ told) b = IsAtOnce from one b × AreAtOnce from told (own_last from one b)

-- whatever was told before
abbrev Alone : Side → List Record → Type 0
Alone from told = (b : Bool) → AreAtOnce from told b

at_once_both : (from : Side) (xs ys : List Record) (b : Bool) → AreAtOnce from xs b
    → AreAtOnce from ys (all_last from xs b) → AreAtOnce from (xs ++ ys) b
at_once_both from [] ys b h k = k
at_once_both from (one ∷ xs) ys b h k = (h.0, at_once_both from xs ys (own_last from one b) h.1 k)

last_both : (from : Side) (xs ys : List Record) (b : Bool)
    → all_last from (xs ++ ys) b ≡ all_last from ys (all_last from xs b)
last_both from [] ys b = refl
last_both from (one ∷ xs) ys b = last_both from xs ys (own_last from one b)

joined_alone : (from : Side) (told xs ys : List Record) → told ≡ xs ++ ys → Alone from xs → Alone from ys
    → Alone from told
joined_alone from told xs ys e h k =
    subst (Alone from) (sym e) (λ b. at_once_both from xs ys b (h b) (k (all_last from xs b)))

none_alone : (from : Side) (told : List Record) → told ≡ [] → Alone from told
none_alone from told e = subst (Alone from) (sym e) (λ b. tt)

just_alone : (from : Side) (one : Record) (told : List Record) → told ≡ one ∷ [] → ((b : Bool) → IsAtOnce from one b)
    → Alone from told
just_alone from one told e h = subst (Alone from) (sym e) (λ b. (h b, tt))

-- ---- what flies not

record Quiet (from : Side) (told : List Record) : Type 0 where
  alone : Alone from told
  same : (b : Bool) → all_last from told b ≡ b

quiet_next : (from : Side) (one : Record) (told : List Record) → ((b : Bool) → IsAtOnce from one b)
    → ((b : Bool) → own_last from one b ≡ b) → Quiet from told → Quiet from (one ∷ told)
quiet_next from one told is same h = record {
  alone = λ b. (is b, h.alone (own_last from one b));
  same = λ b. h.same (own_last from one b) ∙ same b;
}

no : {A : Type 0} → false ≡ true → A
no e = absurd (true≢false (sym e))

stills_quiet : (from : Side) (told : List Record) → AreStill told → Quiet from told
stills_quiet from [] h = record { alone = λ b. tt; same = λ b. refl }
stills_quiet from (records.Block way p fresh version octets ∷ told) h = absurd h.0
stills_quiet from (records.Air way what good ∷ told) h = absurd h.0
stills_quiet from (one ∷ told) h = quiet_next from one told (λ b. tt) (λ b. refl) (stills_quiet from told h.1)

showns_quiet : (from : Side) (told : List Record) → AllShown told → Quiet from told
showns_quiet from [] h = record { alone = λ b. tt; same = λ b. refl }
showns_quiet from (records.Block way p fresh version octets ∷ told) h = no h.0
showns_quiet from (records.Air way what good ∷ told) h = no h.0
showns_quiet from (one ∷ told) h = quiet_next from one told (λ b. tt) (λ b. refl) (showns_quiet from told h.1)

events_quiet : (from side : Side) (es : List Event) → Quiet from (map (records.Of side) es)
events_quiet from side [] = record { alone = λ b. tt; same = λ b. refl }
events_quiet from side (e ∷ es) =
    quiet_next from (records.Of side e) (map (records.Of side) es) (λ b. tt) (λ b. refl) (events_quiet from side es)

still_alone : (from : Side) (told : List Record) → AreStill told → Alone from told
still_alone from told h = (stills_quiet from told h).alone

-- ---- a block, and what comes of it

sender_is : (from side : Side) → is_same (sender_of (sent_by side)) from ≡ is_same side from
sender_is from Nb = refl
sender_is from Ue = refl

record Goes (from side : Side) (told : List Record) : Type 0 where
  alone : Alone from told
  last : (b : Bool) → all_last from told b ≡ is_same side from

goes_out : (from side : Side) (t : ℕ) (ks : List (Option Layout)) (c : Channels) (octets : List ℕ)
    (told : List Record) → GoesOut side t ks c octets told → Goes from side told
goes_out from side t ks c octets told (inl h) =
    let block : Record = records.Block (sent_by side) (t % 8) true 0 octets in
    let shown = showns_quiet from (block_shown (sent_by side) ks octets)
    (block_shows ks (reading (sent_by side) octets)) in
    let built = subst (Quiet from) (sym h.is_first.told_is) (events_quiet from side h.is_first.events) in
    let xs : List Record = block ∷ block_shown (sent_by side) ks octets in
    subst (Goes from side) (sym (h.told_are ∙ ap (λ (l : List Record). h.first ++ l) h.is_second))
    (record {
      alone = λ b. at_once_both from h.first xs b (built.alone b)
          (tt, shown.alone (own_last from block (all_last from h.first b)));
      last = λ b. last_both from h.first xs b ∙ shown.same (is_same (sender_of (sent_by side)) from)
          ∙ sender_is from side;
    })
goes_out from side t ks c octets told (inr h) =
    subst (Goes from side) (sym h.told_is) (record { alone = λ b. (tt, tt); last = λ b. sender_is from side })

heard_alone : (from side : Side) (what : Arrived) (c : Channels) (octets : List ℕ) (told : List Record)
    → IsHeard side what c octets told → Alone from told
heard_alone from side arriveds.Got c octets told h =
    still_alone from told (hearing_tells side c (heard_by side) octets told h)
heard_alone from side arriveds.Dup c octets told h = none_alone from told h
heard_alone from side arriveds.Bad c octets told h = none_alone from told h
heard_alone from side arriveds.Nothing c octets told h = none_alone from told h

passes_alone : (from side : Side) (t : ℕ) (ks : List (Option Layout)) (c : Side → Channels) (told : List Record)
    → PassesOver side t ks c told → Alone from told
passes_alone from side t ks c told h =
    let k = h.in_turn in
    let m = k.is_second in
    let goes = goes_out from side t ks (c side) h.octets k.first k.is_first in
    let heard = heard_alone from (other side) h.what (c (other side)) h.octets m.second m.is_second in
    let air : Record = records.Air (sent_by side) h.what (Some h.feedback) in
    let e : told ≡ k.first ++ (air ∷ m.second) =
    k.told_are
    ∙ ap (λ (l : List Record). k.first ++ l) (m.told_are ∙ ap (λ (l : List Record). l ++ m.second) m.is_first) in
    subst (Alone from) (sym e)
    (λ b. at_once_both from k.first (air ∷ m.second) b (goes.alone b)
    (λ own got. goes.last b ∙ sym (sender_is from side) ∙ own, heard (all_last from k.first b)))

may_alone : (from side : Side) (t : ℕ) (ks : List (Option Layout)) (c : Side → Channels) (told : List Record)
    → MayPassOver side t ks c told → Alone from told
may_alone from side t ks c told (inl e) = none_alone from told e
may_alone from Nb t ks c told (inr (inl e)) = none_alone from told e
may_alone from Ue t ks c told (inr (inl e)) = just_alone from _ told e (λ b own got. no got)
may_alone from side t ks c told (inr (inr h)) = passes_alone from side t ks c told h

loop_alone : (from : Side) (told : List Record) → LoopTells told → Alone from told
loop_alone from told h = still_alone from told (loop_still told h)

both_alone : (from : Side) (t : ℕ) (ks : List (Option Layout)) (c : Side → Channels) (told : List Record)
    → BothPassOver t ks c told → Alone from told
both_alone from t ks c told h =
    joined_alone from told h.first h.second h.told_are (may_alone from Nb t ks c h.first h.is_first)
    (joined_alone from h.second h.is_second.first h.is_second.second h.is_second.told_are
    (loop_alone from h.is_second.first h.is_second.is_first)
    (may_alone from Ue t ks c h.is_second.second h.is_second.is_second))

-- ---- the records of a line

tti_alone : (from : Side) (t : ℕ) (ks : List (Option Layout)) (c : Side → Channels) (told : List Record)
    → TtiTells t ks c told → Alone from told
tti_alone from t ks c told h =
    let a = h.is_second in
    let b = a.is_second in
    let d = b.is_second in
    let e = d.is_second in
    joined_alone from told h.first h.second h.told_are
    (just_alone from (records.Tti t) h.first h.is_first (λ b. tt))
    (joined_alone from h.second a.first a.second a.told_are (sleeps a.first a.is_first)
    (joined_alone from a.second b.first b.second b.told_are
    (still_alone from b.first (timers_tell Nb (c Nb) b.first b.is_first))
    (joined_alone from b.second d.first d.second d.told_are
    (still_alone from d.first (timers_tell Ue (c Ue) d.first d.is_first))
    (joined_alone from d.second e.first e.second e.told_are (loop_alone from e.first e.is_first)
    (both_alone from t ks c e.second e.is_second)))))
  where
    sleeps : (told : List Record) → (told ≡ []) ⊎ (told ≡ records.Sleep ∷ []) → Alone from told
    sleeps told (inl e) = none_alone from told e
    sleeps told (inr e) = just_alone from records.Sleep told e (λ b. tt)

drain_tti_alone : (from : Side) (ks : List (Option Layout)) (c : Side → Channels) (t : ℕ) (told : List Record)
    → DrainTtiTells t ks c told → Alone from told
drain_tti_alone from ks c t told h =
    joined_alone from told h.first h.second h.told_are
    (just_alone from (records.Tti t) h.first h.is_first (λ b. tt)) (both_alone from t ks c h.second h.is_second)

round_alone : (from : Side) (ks : List (Option Layout)) (c : Side → Channels) (t : ℕ) (told : List Record)
    → RoundTells t ks c told → Alone from told
round_alone from ks c t told h =
    let k = h.timers_are in
    joined_alone from told h.tti h.timers h.told_is (drain_tti_alone from ks c t h.tti h.tti_is)
    (joined_alone from h.timers k.first k.second k.told_are
    (still_alone from k.first (receivers_tell k.first k.is_first))
    (still_alone from k.second (senders_tell _ k.second k.is_second)))

turns_alone : (from : Side) (Each : ℕ → List Record → Type 0)
    → ((t : ℕ) (told : List Record) → Each t told → Alone from told) → (t count : ℕ) (told : List Record)
    → InTurn Each t count told → Alone from told
turns_alone from Each each t zero told h = none_alone from told h
turns_alone from Each each t (suc n) told h =
    joined_alone from told h.first h.second h.told_are (each t h.first h.is_first)
    (turns_alone from Each each (t + 1) n h.second h.is_second)

drain_alone : (from : Side) (t : ℕ) (ks : List (Option Layout)) (c : Side → Channels) (told : List Record)
    → DrainTells t ks c told → Alone from told
drain_alone from t ks c told h =
    let k = h.in_turn in
    joined_alone from told k.first k.second k.told_are
    (turns_alone from (λ n. DrainTtiTells n ks c) (drain_tti_alone from ks c) t 8 k.first k.is_first)
    (joined_alone from k.second k.is_second.first k.is_second.second k.is_second.told_are
    (turns_alone from (λ n. RoundTells n ks c) (round_alone from ks c) (t + 8) h.rounds k.is_second.first
    k.is_second.is_first)
    (just_alone from (records.Drained h.rounds) k.is_second.second k.is_second.is_second (λ b. tt)))

submit_alone : (from side : Side) (lcid : ℕ) (told : List Record) → SubmitTells side lcid told → Alone from told
submit_alone from side lcid told (inl e) = none_alone from told e
submit_alone from side lcid told (inr h) =
    just_alone from (records.Refused side lcid h.why) told h.told_is (λ b. tt)

forge_alone : (from side : Side) (c : Channels) (octets : List ℕ) (told : List Record)
    → ForgeTells side c octets told → Alone from told
forge_alone from side c octets told h =
    joined_alone from told h.first h.second h.told_are
    (still_alone from h.first (hearing_tells side c (heard_by side) octets h.first h.is_first))
    (loop_alone from h.second h.is_second)

line_alone : (from : Side) (t : ℕ) (ks : List (Option Layout)) (c : Side → Channels) (line : Line)
    (told : List Record) → LineTells t ks c line told → Alone from told
line_alone from t ks c (lines.Submit side lcid octets) told h = submit_alone from side lcid told h
line_alone from t ks c (lines.Tti up_grant up down_grant down) told h = tti_alone from t ks c told h
line_alone from t ks c (lines.Drain grant) told h = drain_alone from t ks c told h
line_alone from t ks c (lines.Expire side lcid clock) told h =
    still_alone from told (expiry_tells side lcid clock told h)
line_alone from t ks c (lines.Forge side octets) told h = forge_alone from side (c side) octets told h
line_alone from t ks c (lines.Handover user rrc integrity) told h = still_alone from told (handover_still c told h)
line_alone from t ks c lines.LoopOff told h = loop_alone from told h
line_alone from t ks c (lines.LoopA size) told h = loop_alone from told h
line_alone from t ks c (lines.LoopB delay) told h = loop_alone from told h
line_alone from t ks c line told h = none_alone from told h

-- ---- a group

at_once : (from : Side) (g : Group) (past : List Group) → LinesTell (g ∷ past) → AreAtOnce from g.events false
at_once from g past h =
    line_alone from (ttis past) (kinds past) (λ side. channels past) g.line g.events h.0 false

abbrev Matches : Bool → Flying → Type 0
Matches b x = b ≡ true → is_some x.last ≡ true

is_flown : (from : Side) (told : List Record) (x : Flying) (b : Bool) → AreSent from told x → AreAtOnce from told b
    → Matches b x → AreFlown from told x
is_flown from [] x b sent once is = tt
is_flown from (records.Block way p true version octets ∷ told) x b sent once is =
    (sent.0, is_flown from told _ _ sent.1 once.1 (new_matches (is_same (sender_of way) from)))
  where
    new_matches : (own : Bool) → Matches own (if own then with_new p octets x else with_other x)
    new_matches true e = refl
    new_matches false e = no e
is_flown from (records.Block way p false version octets ∷ told) x b sent once is =
    (sent.0, is_flown from told _ _ sent.1 once.1 (again_matches (is_same (sender_of way) from)))
  where
    again_matches : (own : Bool) → Matches own (if own then with_again p x else with_other x)
    again_matches true e = refl
    again_matches false e = no e
is_flown from (records.Air way what good ∷ told) x b sent once is =
    (λ own got. is (once.0 own got), is_flown from told x b sent.1 once.1 is)
is_flown from (one ∷ told) x b sent once is = (tt, is_flown from told x b sent.1 once.1 is)

pub flown_at_once : (from : Side) (g : Group) (past : List Group) (x : Flying) → LinesTell (g ∷ past)
    → AreSent from g.events x → AreFlown from g.events x
flown_at_once from g past x tells sent =
    is_flown from g.events x false sent (at_once from g past tells) (λ e. no e)
