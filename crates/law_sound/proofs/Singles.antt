-- A new block has at most one new PDU of each channel, where records stand in their order.
use Rattle.std.proofs.Common.{◌≡◌, ◌≤◌, ◌⊎◌, ℕ, zero, suc, ◌+◌, ◌%◌, ◌==◌, Bool, true, false, ◌||◌, List, [], ◌∷◌, ◌++◌}
use Rattle.std.proofs.Common.{map}
use Rattle.std.proofs.Common.{Option, refl, ap, sym, ◌∙◌, inl, inr, subst, if◌then◌else◌, arith, take, drop}
use Rattle.std.specs.List.{All}
use Rattle.std.proofs.lemmas.Bool.{true≢false, eq-eqb, eqb-true, ne_eqb}
use Rattle.std.proofs.lemmas.List.{take-append-drop}
use Rattle.std.proofs.lemmas.List.Elements.{All-head, All-tail}
use Rattle.l2_types.specs.declared.channel.Channel.{Channel}
use Rattle.l2_types.specs.declared.event.Clock.TheVariants.{Poll, Prohibit}
use Rattle.l2_types.specs.declared.event.How.TheVariants as hows
use Rattle.l2_types.specs.declared.side.Side.{Side}
use Rattle.l2_types.specs.declared.side.Side.TheVariants.{Nb, Ue}
use Rattle.mac_pdu.specs.Reading.{reading}
use Rattle.prioritise.specs.Channels.{has, put, place}
use Rattle.bearer_types.specs.declared.event.Event.{Event}
use Rattle.bearer_types.specs.declared.event.Event.TheVariants as events
use Rattle.bearer_types.specs.Sides.{is_same, sent_by, heard_by, other}
use Rattle.air_record.specs.declared.line.Line.{Line}
use Rattle.air_record.specs.declared.line.Line.TheVariants as lines
use Rattle.air_record.specs.declared.record.Arrived.{Arrived}
use Rattle.air_record.specs.declared.record.Arrived.TheVariants as arriveds
use Rattle.air_record.specs.declared.record.Record.{Record}
use Rattle.air_record.specs.declared.record.Record.TheVariants as records
use Rattle.air_text.specs.Groups.{Group}
use Rattle.pdu_show.specs.declared.kinds.Layout.{Layout}
use Rattle.pdu_show.specs.Show.{block_shown}
use Rattle.law_words.specs.BearerOrder.{in_a_block, a_status, a_report, a_take, a_data_pdu, a_wait}
use Rattle.law_words.specs.Sequences.{◌then◌, each, many, joined}
use Rattle.promises.specs.Air.{InTurn, ttis}
use Rattle.promises.specs.Blocks.{kinds}
use Rattle.promises.specs.Order.{Channels, EndTells, of_building, GoesOut, IsHeard, PassesOver, MayPassOver}
use Rattle.promises.specs.Order.{BothPassOver, TtiTells, DrainTtiTells, LoopTells, SubmitTells, ForgeTells}
use Rattle.promises.specs.Records.{is_shown}
use Rattle.promises.specs.Telling.{RoundTells, DrainTells, LineTells, channels_by, channels, LinesTell}
use Rattle.promises.proofs.ShownBlocks.{AllShown, block_shows}
use Rattle.law_sound.proofs.SinglePdus.{new_in, named_by, AreSingle}
use Rattle.law_sound.proofs.Quiet.{timers_tell, hearing_tells, expiry_tells, receivers_tell, senders_tell}
use Rattle.law_sound.proofs.Still.{IsStillEvent, IsStill, AreStill, loop_still, handover_still}
use Rattle.law_sound.proofs.Telling.{same_side}

-- ---- records one behind the other, none of which is named and left

abbrev named_all : Side → ℕ → List Record → ℕ → ℕ
named_all from l [] n = n
named_all from l (one ∷ told) n = named_all from l told (named_by from l one n)

record LeavesNone (from : Side) (l : ℕ) (told : List Record) : Type 0 where
  single : AreSingle from l told 0
  none : named_all from l told 0 ≡ 0

single_both : (from : Side) (l n : ℕ) (xs ys : List Record) → AreSingle from l xs n
    → AreSingle from l ys (named_all from l xs n) → AreSingle from l (xs ++ ys) n
single_both from l n [] ys h k = k
single_both from l n (one ∷ xs) ys h k = (h.0, single_both from l (named_by from l one n) xs ys h.1 k)

named_both : (from : Side) (l n : ℕ) (xs ys : List Record)
    → named_all from l (xs ++ ys) n ≡ named_all from l ys (named_all from l xs n)
named_both from l n [] ys = refl
named_both from l n (one ∷ xs) ys = named_both from l (named_by from l one n) xs ys

none_both : (from : Side) (l : ℕ) (xs ys : List Record) → LeavesNone from l xs → LeavesNone from l ys
    → LeavesNone from l (xs ++ ys)
none_both from l xs ys h k = record {
  single = single_both from l 0 xs ys h.single (subst (λ (n : ℕ). AreSingle from l ys n) (sym h.none) k.single);
  none = named_both from l 0 xs ys ∙ ap (named_all from l ys) h.none ∙ k.none;
}

joined_none : (from : Side) (l : ℕ) (told xs ys : List Record) → told ≡ xs ++ ys → LeavesNone from l xs
    → LeavesNone from l ys → LeavesNone from l told
joined_none from l told xs ys e h k = subst (LeavesNone from l) (sym e) (none_both from l xs ys h k)

none_at_all : (from : Side) (l : ℕ) (told : List Record) → told ≡ [] → LeavesNone from l told
none_at_all from l told e = subst (LeavesNone from l) (sym e) (record { single = tt; none = refl })

-- a record that names none
one_none : (from : Side) (l : ℕ) (one : Record) (told : List Record) → named_by from l one 0 ≡ 0
    → LeavesNone from l told → LeavesNone from l (one ∷ told)
one_none from l one told e h = record {
  single = (
    omega (arith, e),
    subst (λ (n : ℕ). AreSingle from l told n) (sym e) h.single,
  );
  none = ap (named_all from l told) e ∙ h.none;
}

just_none : (from : Side) (l : ℕ) (one : Record) (told : List Record) → told ≡ one ∷ [] → named_by from l one 0 ≡ 0
    → LeavesNone from l told
just_none from l one told e none =
    subst (LeavesNone from l) (sym e) (one_none from l one [] none (record { single = tt; none = refl }))

-- ---- what is still, and what shows a block

event_zero : (l : ℕ) (event : Event) → IsStillEvent event → new_in l event ≡ 0
event_zero l (events.Send lcid how sn) h = absurd h
event_zero l event h = refl

event_none : (from side : Side) (l : ℕ) (event : Event) → new_in l event ≡ 0
    → named_by from l (records.Of side event) 0 ≡ 0
event_none from side l event e = by (is_same from side)
  where
    by : (b : Bool) → (if b then 0 + new_in l event else 0) ≡ 0
    by true = omega (arith, e)
    by false = refl

still_none : (from : Side) (l : ℕ) (one : Record) → IsStill one → named_by from l one 0 ≡ 0
still_none from l (records.Of side event) h = event_none from side l event (event_zero l event h)
still_none from l (records.Block way p fresh version octets) h = absurd h
still_none from l one h = refl

stills_none : (from : Side) (l : ℕ) (told : List Record) → AreStill told → LeavesNone from l told
stills_none from l [] h = record { single = tt; none = refl }
stills_none from l (one ∷ told) h =
    one_none from l one told (still_none from l one h.0) (stills_none from l told h.1)

no : {A : Type 0} → false ≡ true → A
no e = absurd (true≢false (sym e))

shown_none : (from : Side) (l : ℕ) (one : Record) → is_shown one ≡ true → named_by from l one 0 ≡ 0
shown_none from l (records.Of side event) e = no e
shown_none from l (records.Block way p fresh version octets) e = no e
shown_none from l one e = refl

showns_none : (from : Side) (l : ℕ) (told : List Record) → AllShown told → LeavesNone from l told
showns_none from l [] h = record { single = tt; none = refl }
showns_none from l (one ∷ told) h =
    one_none from l one told (shown_none from l one h.0) (showns_none from l told h.1)

-- ---- as a block is built

-- how many new PDUs of a channel events tell of
abbrev total : ℕ → List Event → ℕ
total l [] = 0
total l (e ∷ es) = new_in l e + total l es

total_both : (l : ℕ) (xs ys : List Event) → total l (xs ++ ys) ≡ total l xs + total l ys
total_both l [] ys = omega arith
total_both l (e ∷ xs) ys = let ih = total_both l xs ys in omega (arith, ih)

abbrev Of : Type 1
Of = List Event → Type 0

abbrev AtMost : ℕ → ℕ → Of → Type 0
AtMost l n A = (told : List Event) → A told → total l told ≤ n

then_most : (l m n : ℕ) (A B : Of) → AtMost l m A → AtMost l n B → (told : List Event) → (A then B) told
    → total l told ≤ m + n
then_most l m n A B a b told h =
    let x = a h.first h.is_first in
    let y = b h.second h.is_second in
    let both = ap (total l) h.told_are ∙ total_both l h.first h.second in
    omega (arith, x, y, both)

maybe_most : (l n : ℕ) (A : Of) → AtMost l n A → (told : List Event) → (told ≡ []) ⊎ A told → total l told ≤ n
maybe_most l n A a told (inl e) = let none = ap (total l) e in omega (arith, none)
maybe_most l n A a told (inr h) = a told h

one_most : (l n : ℕ) (event : Event) (told : List Event) → told ≡ event ∷ [] → new_in l event ≤ n → total l told ≤ n
one_most l n event told e h = let all = ap (total l) e in omega (arith, all, h)

joined_most : (l : ℕ) (A : Of) → AtMost l 0 A → (parts : List (List Event)) → All A parts
    → total l (joined parts) ≤ 0
joined_most l A a [] all = omega arith
joined_most l A a (part ∷ parts) all =
    let one = a part (All-head A part parts all) in
    let rest = joined_most l A a parts (All-tail A part parts all) in
    let both = total_both l part (joined parts) in
    omega (arith, one, rest, both)

many_most : (l : ℕ) (A : Of) → AtMost l 0 A → (told : List Event) → many A told → total l told ≤ 0
many_most l A a told h =
    let all = joined_most l A a h.parts h.are_each in let is = ap (total l) h.told_are in omega (arith, all, is)

status_most : (l lcid : ℕ) → AtMost l 0 (a_status lcid)
status_most l lcid told h =
    let all = then_most l 0 0 _ _ (λ xs e. any_status xs e)
    (λ xs m. maybe_most l 0 _ (λ ys e. one_most l 0 (events.Start lcid Prohibit) ys e (omega arith)) xs m) told h in
    omega (arith, all)
  where
    any_status : (xs : List Event) → (ack : ℕ) × (xs ≡ events.Send lcid hows.Status ack ∷ []) → total l xs ≤ 0
    any_status xs (ack, e) = one_most l 0 (events.Send lcid hows.Status ack) xs e (omega arith)

report_most : (l lcid : ℕ) → AtMost l 0 (a_report lcid)
report_most l lcid told (fms, (bitmap, e)) = one_most l 0 (events.Report lcid fms bitmap) told e (omega arith)

take_most : (l lcid : ℕ) → AtMost l 0 (a_take lcid)
take_most l lcid told (count, (len, e)) = one_most l 0 (events.Take lcid count len) told e (omega arith)

abbrev here : ℕ → ℕ → ℕ
here l lcid = if lcid == l then 1 else 0

number_most : (l lcid : ℕ) (xs : List Event)
    → (sn : ℕ) × ((xs ≡ events.Send lcid hows.New sn ∷ []) ⊎ (xs ≡ events.Send lcid hows.Re sn ∷ []))
    → total l xs ≤ here l lcid
number_most l lcid xs (sn, inl e) =
    let all : total l xs ≡ here l lcid + 0 = ap (total l) e in omega (arith, all)
number_most l lcid xs (sn, inr e) = one_most l (here l lcid) (events.Send lcid hows.Re sn) xs e (omega arith)

data_most : (l lcid : ℕ) → AtMost l (here l lcid) (a_data_pdu lcid)
data_most l lcid told (inl e) = one_most l (here l lcid) (events.Send lcid hows.Tm 0) told e (omega arith)
data_most l lcid told (inr h) =
    let all = then_most l (here l lcid) 0 _ _ (number_most l lcid)
    (λ xs m. maybe_most l 0 _ (λ ys e. one_most l 0 (events.Start lcid Poll) ys e (omega arith)) xs m) told h in
    omega (arith, all)

wait_most : (l lcid : ℕ) → AtMost l 0 (a_wait lcid)
wait_most l lcid told (why, e) = one_most l 0 (events.Wait lcid why) told e (omega arith)

either_most : (l lcid : ℕ) (told : List Event) → a_data_pdu lcid told ⊎ a_wait lcid told → total l told ≤ here l lcid
either_most l lcid told (inl h) = data_most l lcid told h
either_most l lcid told (inr h) = let none = wait_most l lcid told h in omega (arith, none)

block_most : (l lcid : ℕ) → AtMost l (here l lcid) (in_a_block lcid)
block_most l lcid told h =
    let all = then_most l 0 (0 + (0 + here l lcid)) _ _ (λ xs m. maybe_most l 0 _ (status_most l lcid) xs m)
    (λ xs k. then_most l 0 (0 + here l lcid) _ _ (λ ys m. maybe_most l 0 _ (report_most l lcid) ys m)
    (λ ys j. then_most l 0 (here l lcid) _ _ (λ zs m. many_most l _ (take_most l lcid) zs m)
    (λ zs m. maybe_most l (here l lcid) _ (either_most l lcid) zs m) ys j) xs k) told h in
    omega (arith, all)

-- ---- of each channel once

abbrev count_of : ℕ → List Channel → ℕ
count_of l [] = 0
count_of l (d ∷ ds) = here l d.lcid + count_of l ds

building_most : (l : ℕ) (ds : List Channel) (told : List Event) → each (λ d. in_a_block d.lcid) ds told
    → total l told ≤ count_of l ds
building_most l [] told h = let none = ap (total l) h in omega (arith, none)
building_most l (d ∷ ds) told h =
    then_most l (here l d.lcid) (count_of l ds) _ _ (block_most l d.lcid) (building_most l ds) told h

count_both : (l : ℕ) (xs ys : List Channel) → count_of l (xs ++ ys) ≡ count_of l xs + count_of l ys
count_both l [] ys = omega arith
count_both l (d ∷ xs) ys = let ih = count_both l xs ys in omega (arith, ih)

count_put : (l : ℕ) (d : Channel) (ds : List Channel) → count_of l (put d ds) ≡ here l d.lcid + count_of l ds
count_put l d ds =
    let n : ℕ = place d ds in
    let both = count_both l (take (place d ds) ds) (d ∷ drop (place d ds) ds) in
    let parts = count_both l (take (place d ds) ds) (drop (place d ds) ds) in
    let all = ap (count_of l) (take-append-drop (place d ds) ds) in
    omega (arith, both, parts, all)

none_counted : (l : ℕ) (ds : List Channel) → has l ds ≡ false → count_of l ds ≡ 0
none_counted l [] e = refl
none_counted l (d ∷ ds) e = by (l == d.lcid) refl e (none_counted l ds)
  where
    by : (b : Bool) → (l == d.lcid) ≡ b → (b || has l ds) ≡ false → (has l ds ≡ false → count_of l ds ≡ 0)
        → here l d.lcid + count_of l ds ≡ 0
    by true is e rest = no (sym e)
    by false is e rest =
        let apart : (d.lcid == l) ≡ false =
        ne_eqb d.lcid l (λ same. true≢false (sym (eq-eqb l d.lcid (sym same)) ∙ is)) in
        let none = rest e in
        let zero : here l d.lcid ≡ 0 = ap (λ (c : Bool). if c then 1 else 0) apart in
        omega (arith, none, zero)

with_once : (l : ℕ) (d : Channel) (ds : List Channel) → count_of l ds ≤ 1
    → count_of l (if has d.lcid ds then ds else put d ds) ≤ 1
with_once l d ds h = by (has d.lcid ds) refl
  where
    by : (b : Bool) → has d.lcid ds ≡ b → count_of l (if b then ds else put d ds) ≤ 1
    by true e = h
    by false e = put_once (d.lcid == l) refl
      where
        put_once : (c : Bool) → (d.lcid == l) ≡ c → count_of l (put d ds) ≤ 1
        put_once true is =
            let same = eqb-true d.lcid l is in
            let none = subst (λ (n : ℕ). count_of n ds ≡ 0) same (none_counted d.lcid ds e) in
            let one : here l d.lcid ≡ 1 = ap (λ (x : Bool). if x then 1 else 0) is in
            let all = count_put l d ds in
            omega (arith, none, one, all)
        put_once false is =
            let zero : here l d.lcid ≡ 0 = ap (λ (x : Bool). if x then 1 else 0) is in
            let all = count_put l d ds in
            omega (arith, h, zero, all)

line_once : (l : ℕ) (line : Line) (c : Channels) → count_of l c.by_priority ≤ 1
    → count_of l (channels_by line c).by_priority ≤ 1
line_once l (lines.Bearer config options) c h = with_once l config.channel c.by_priority h
line_once l line c h = h

channels_once : (l : ℕ) (past : List Group) → count_of l (channels past).by_priority ≤ 1
channels_once l [] = omega arith
channels_once l (g ∷ past) = line_once l g.line (channels past) (channels_once l past)

-- ---- a block goes out

-- the events of a side that builds, and what stands behind them
built_single : (from : Side) (l n : ℕ) (es : List Event) (rest : List Record) → n + total l es ≤ 1
    → AreSingle from l rest (n + total l es) → AreSingle from l (map (records.Of from) es ++ rest) n
built_single from l n [] rest few h = let same : n + 0 ≡ n = omega arith in
    subst (λ (m : ℕ). AreSingle from l rest m) same h
built_single from l n (e ∷ es) rest few h =
    let next : n + (new_in l e + total l es) ≡ n + new_in l e + total l es = omega arith in
    let one : named_by from l (records.Of from e) n ≡ n + new_in l e =
    ap (λ (b : Bool). if b then n + new_in l e else n) (same_side from) in
    let ih = built_single from l (n + new_in l e) es rest (omega (arith, few, next))
    (subst (λ (m : ℕ). AreSingle from l rest m) next h) in (
      omega (arith, few, one),
      subst (λ (m : ℕ). AreSingle from l (map (records.Of from) es ++ rest) m) (sym one) ih,
    )

built_named : (from : Side) (l n : ℕ) (es : List Event)
    → named_all from l (map (records.Of from) es) n ≡ n + total l es
built_named from l n [] = omega arith
built_named from l n (e ∷ es) =
    let one : named_by from l (records.Of from e) n ≡ n + new_in l e =
    ap (λ (b : Bool). if b then n + new_in l e else n) (same_side from) in
    ap (named_all from l (map (records.Of from) es)) one ∙ built_named from l (n + new_in l e) es ∙ omega arith

-- a new block takes them all
block_single : (from : Side) (l p n : ℕ) (version : ℕ) (octets : List ℕ) (shown : List Record)
    → LeavesNone from l shown → AreSingle from l (records.Block (sent_by from) p true version octets ∷ shown) n
block_single Nb l p n version octets shown h = (omega arith, h.single)
block_single Ue l p n version octets shown h = (omega arith, h.single)

block_named : (from : Side) (l p n : ℕ) (version : ℕ) (octets : List ℕ) (shown : List Record)
    → LeavesNone from l shown
    → named_all from l (records.Block (sent_by from) p true version octets ∷ shown) n ≡ 0
block_named Nb l p n version octets shown h = h.none
block_named Ue l p n version octets shown h = h.none

-- of the side itself
own_new : (from : Side) (l t : ℕ) (ks : List (Option Layout)) (c : Channels) (octets : List ℕ) (told new : List Record)
    → count_of l c.by_priority ≤ 1 → EndTells from (of_building c) told
    → new ≡ records.Block (sent_by from) t true 0 octets ∷ block_shown (sent_by from) ks octets
    → LeavesNone from l (told ++ new)
own_new from l t ks c octets told new once h is =
    let few = building_most l c.by_priority h.events h.in_order in
    let shown = showns_none from l (block_shown (sent_by from) ks octets)
    (block_shows ks (reading (sent_by from) octets)) in
    subst (λ (xs : List Record). LeavesNone from l (xs ++ new)) (sym h.told_is)
    (subst (λ (ys : List Record). LeavesNone from l (map (records.Of from) h.events ++ ys)) (sym is)
    (record {
      single = built_single from l 0 h.events
          (records.Block (sent_by from) t true 0 octets ∷ block_shown (sent_by from) ks octets)
          (omega (arith, few, once))
          (block_single from l t (0 + total l h.events) 0 octets (block_shown (sent_by from) ks octets) shown);
      none =
          named_both from l 0 (map (records.Of from) h.events)
          (records.Block (sent_by from) t true 0 octets ∷ block_shown (sent_by from) ks octets)
          ∙ block_named from l t (named_all from l (map (records.Of from) h.events) 0) 0 octets
          (block_shown (sent_by from) ks octets) shown;
    }))

-- of the other side
other_events : (from side : Side) (l : ℕ) (es : List Event) → is_same side from ≡ false
    → LeavesNone from l (map (records.Of side) es)
other_events from side l [] apart = record { single = tt; none = refl }
other_events from side l (e ∷ es) apart =
    one_none from l (records.Of side e) (map (records.Of side) es)
    (unheard from side e apart) (other_events from side l es apart)
  where
    unheard : (from side : Side) (e : Event) → is_same side from ≡ false
        → named_by from l (records.Of side e) 0 ≡ 0
    unheard Nb Nb e apart = no (sym apart)
    unheard Nb Ue e apart = refl
    unheard Ue Nb e apart = refl
    unheard Ue Ue e apart = no (sym apart)

other_new : (from side : Side) (l t : ℕ) (ks : List (Option Layout)) (c : Channels) (octets : List ℕ)
    (told new : List Record) → is_same side from ≡ false → EndTells side (of_building c) told
    → new ≡ records.Block (sent_by side) t true 0 octets ∷ block_shown (sent_by side) ks octets
    → LeavesNone from l (told ++ new)
other_new from side l t ks c octets told new apart h is =
    none_both from l told new
    (subst (LeavesNone from l) (sym h.told_is) (other_events from side l h.events apart))
    (subst (LeavesNone from l) (sym is)
    (one_none from l (records.Block (sent_by side) t true 0 octets) (block_shown (sent_by side) ks octets)
    (other_block from side apart)
    (showns_none from l (block_shown (sent_by side) ks octets) (block_shows ks (reading (sent_by side) octets)))))
  where
    other_block : (from side : Side) → is_same side from ≡ false
        → named_by from l (records.Block (sent_by side) t true 0 octets) 0 ≡ 0
    other_block Nb Nb apart = refl
    other_block Nb Ue apart = refl
    other_block Ue Nb apart = refl
    other_block Ue Ue apart = refl

new_none : (from side : Side) (l t : ℕ) (ks : List (Option Layout)) (c : Channels) (octets : List ℕ)
    (told new : List Record) → count_of l c.by_priority ≤ 1 → EndTells side (of_building c) told
    → new ≡ records.Block (sent_by side) t true 0 octets ∷ block_shown (sent_by side) ks octets
    → LeavesNone from l (told ++ new)
new_none Nb Nb l t ks c octets told new once h is = own_new Nb l t ks c octets told new once h is
new_none Ue Ue l t ks c octets told new once h is = own_new Ue l t ks c octets told new once h is
new_none Nb Ue l t ks c octets told new once h is = other_new Nb Ue l t ks c octets told new refl h is
new_none Ue Nb l t ks c octets told new once h is = other_new Ue Nb l t ks c octets told new refl h is

again_none : (from side : Side) (l p version : ℕ) (octets : List ℕ)
    → named_by from l (records.Block (sent_by side) p false version octets) 0 ≡ 0
again_none from side l p version octets = refl

goes_none : (from side : Side) (l t : ℕ) (ks : List (Option Layout)) (c : Channels) (octets : List ℕ)
    (told : List Record) → count_of l c.by_priority ≤ 1 → GoesOut side t ks c octets told → LeavesNone from l told
goes_none from side l t ks c octets told once (inl h) =
    subst (LeavesNone from l) (sym h.told_are)
    (new_none from side l (t % 8) ks c octets h.first h.second once h.is_first h.is_second)
goes_none from side l t ks c octets told once (inr h) =
    just_none from l (records.Block (sent_by side) (t % 8) false h.version octets) told h.told_is
    (again_none from side l (t % 8) h.version octets)

heard_none : (from side : Side) (l : ℕ) (what : Arrived) (c : Channels) (octets : List ℕ) (told : List Record)
    → IsHeard side what c octets told → LeavesNone from l told
heard_none from side l arriveds.Got c octets told h =
    stills_none from l told (hearing_tells side c (heard_by side) octets told h)
heard_none from side l arriveds.Dup c octets told h = none_at_all from l told h
heard_none from side l arriveds.Bad c octets told h = none_at_all from l told h
heard_none from side l arriveds.Nothing c octets told h = none_at_all from l told h

passes_none : (from side : Side) (l t : ℕ) (ks : List (Option Layout)) (c : Side → Channels) (told : List Record)
    → ((s : Side) → count_of l (c s).by_priority ≤ 1) → PassesOver side t ks c told → LeavesNone from l told
passes_none from side l t ks c told once h =
    let k = h.in_turn in
    joined_none from l told k.first k.second k.told_are
    (goes_none from side l t ks (c side) h.octets k.first (once side) k.is_first)
    (joined_none from l k.second k.is_second.first k.is_second.second k.is_second.told_are
    (just_none from l _ k.is_second.first k.is_second.is_first refl)
    (heard_none from (other side) l h.what (c (other side)) h.octets k.is_second.second k.is_second.is_second))

may_none : (from side : Side) (l t : ℕ) (ks : List (Option Layout)) (c : Side → Channels) (told : List Record)
    → ((s : Side) → count_of l (c s).by_priority ≤ 1) → MayPassOver side t ks c told → LeavesNone from l told
may_none from side l t ks c told once (inl e) = none_at_all from l told e
may_none from Nb l t ks c told once (inr (inl e)) = none_at_all from l told e
may_none from Ue l t ks c told once (inr (inl e)) = just_none from l _ told e refl
may_none from side l t ks c told once (inr (inr h)) = passes_none from side l t ks c told once h

loop_none : (from : Side) (l : ℕ) (told : List Record) → LoopTells told → LeavesNone from l told
loop_none from l told h = stills_none from l told (loop_still told h)

both_none : (from : Side) (l t : ℕ) (ks : List (Option Layout)) (c : Side → Channels) (told : List Record)
    → ((s : Side) → count_of l (c s).by_priority ≤ 1) → BothPassOver t ks c told → LeavesNone from l told
both_none from l t ks c told once h =
    joined_none from l told h.first h.second h.told_are (may_none from Nb l t ks c h.first once h.is_first)
    (joined_none from l h.second h.is_second.first h.is_second.second h.is_second.told_are
    (loop_none from l h.is_second.first h.is_second.is_first)
    (may_none from Ue l t ks c h.is_second.second once h.is_second.is_second))

-- ---- the records of a line

abbrev Once : ℕ → (Side → Channels) → Type 0
Once l c = (s : Side) → count_of l (c s).by_priority ≤ 1

tti_none : (from : Side) (l t : ℕ) (ks : List (Option Layout)) (c : Side → Channels) (told : List Record) → Once l c
    → TtiTells t ks c told → LeavesNone from l told
tti_none from l t ks c told once h =
    let a = h.is_second in
    let b = a.is_second in
    let d = b.is_second in
    let e = d.is_second in
    joined_none from l told h.first h.second h.told_are (just_none from l (records.Tti t) h.first h.is_first refl)
    (joined_none from l h.second a.first a.second a.told_are (sleeps a.first a.is_first)
    (joined_none from l a.second b.first b.second b.told_are
    (stills_none from l b.first (timers_tell Nb (c Nb) b.first b.is_first))
    (joined_none from l b.second d.first d.second d.told_are
    (stills_none from l d.first (timers_tell Ue (c Ue) d.first d.is_first))
    (joined_none from l d.second e.first e.second e.told_are (loop_none from l e.first e.is_first)
    (both_none from l t ks c e.second once e.is_second)))))
  where
    sleeps : (told : List Record) → (told ≡ []) ⊎ (told ≡ records.Sleep ∷ []) → LeavesNone from l told
    sleeps told (inl e) = none_at_all from l told e
    sleeps told (inr e) = just_none from l records.Sleep told e refl

drain_tti_none : (from : Side) (l : ℕ) (ks : List (Option Layout)) (c : Side → Channels) → Once l c → (t : ℕ)
    (told : List Record) → DrainTtiTells t ks c told → LeavesNone from l told
drain_tti_none from l ks c once t told h =
    joined_none from l told h.first h.second h.told_are (just_none from l (records.Tti t) h.first h.is_first refl)
    (both_none from l t ks c h.second once h.is_second)

round_none : (from : Side) (l : ℕ) (ks : List (Option Layout)) (c : Side → Channels) → Once l c → (t : ℕ)
    (told : List Record) → RoundTells t ks c told → LeavesNone from l told
round_none from l ks c once t told h =
    let k = h.timers_are in
    joined_none from l told h.tti h.timers h.told_is (drain_tti_none from l ks c once t h.tti h.tti_is)
    (joined_none from l h.timers k.first k.second k.told_are
    (stills_none from l k.first (receivers_tell k.first k.is_first))
    (stills_none from l k.second (senders_tell _ k.second k.is_second)))

turns_none : (from : Side) (l : ℕ) (Each : ℕ → List Record → Type 0)
    → ((t : ℕ) (told : List Record) → Each t told → LeavesNone from l told) → (t count : ℕ) (told : List Record)
    → InTurn Each t count told → LeavesNone from l told
turns_none from l Each each t zero told h = none_at_all from l told h
turns_none from l Each each t (suc n) told h =
    joined_none from l told h.first h.second h.told_are (each t h.first h.is_first)
    (turns_none from l Each each (t + 1) n h.second h.is_second)

drain_none : (from : Side) (l t : ℕ) (ks : List (Option Layout)) (c : Side → Channels) (told : List Record) → Once l c
    → DrainTells t ks c told → LeavesNone from l told
drain_none from l t ks c told once h =
    let k = h.in_turn in
    joined_none from l told k.first k.second k.told_are
    (turns_none from l (λ n. DrainTtiTells n ks c) (drain_tti_none from l ks c once) t 8 k.first k.is_first)
    (joined_none from l k.second k.is_second.first k.is_second.second k.is_second.told_are
    (turns_none from l (λ n. RoundTells n ks c) (round_none from l ks c once) (t + 8) h.rounds k.is_second.first
    k.is_second.is_first)
    (just_none from l (records.Drained h.rounds) k.is_second.second k.is_second.is_second refl))

submit_none : (from side : Side) (l lcid : ℕ) (told : List Record) → SubmitTells side lcid told
    → LeavesNone from l told
submit_none from side l lcid told (inl e) = none_at_all from l told e
submit_none from side l lcid told (inr h) = just_none from l (records.Refused side lcid h.why) told h.told_is refl

forge_none : (from side : Side) (l : ℕ) (c : Channels) (octets : List ℕ) (told : List Record)
    → ForgeTells side c octets told → LeavesNone from l told
forge_none from side l c octets told h =
    joined_none from l told h.first h.second h.told_are
    (stills_none from l h.first (hearing_tells side c (heard_by side) octets h.first h.is_first))
    (loop_none from l h.second h.is_second)

line_none : (from : Side) (l t : ℕ) (ks : List (Option Layout)) (c : Side → Channels) (line : Line)
    (told : List Record) → Once l c → LineTells t ks c line told → LeavesNone from l told
line_none from l t ks c (lines.Submit side lcid octets) told once h = submit_none from side l lcid told h
line_none from l t ks c (lines.Tti up_grant up down_grant down) told once h = tti_none from l t ks c told once h
line_none from l t ks c (lines.Drain grant) told once h = drain_none from l t ks c told once h
line_none from l t ks c (lines.Expire side lcid clock) told once h =
    stills_none from l told (expiry_tells side lcid clock told h)
line_none from l t ks c (lines.Forge side octets) told once h = forge_none from side l (c side) octets told h
line_none from l t ks c (lines.Handover user rrc integrity) told once h =
    stills_none from l told (handover_still c told h)
line_none from l t ks c lines.LoopOff told once h = loop_none from l told h
line_none from l t ks c (lines.LoopA size) told once h = loop_none from l told h
line_none from l t ks c (lines.LoopB delay) told once h = loop_none from l told h
line_none from l t ks c line told once h = none_at_all from l told h

-- behind each group
pub group_single : (from : Side) (l : ℕ) (g : Group) (past : List Group) → LinesTell (g ∷ past)
    → AreSingle from l g.events 0
group_single from l g past h =
    (line_none from l (ttis past) (kinds past) (λ side. channels past) g.line g.events
    (λ side. channels_once l past) h.0).single
