-- A TTI of a drain in which no bearer writes tells of no PDU that is sent.
use Rattle.std.proofs.Common.{◌≡◌, ◌≤◌, ℕ, ◌==◌, Bool, true, false, cond, ◌||◌, if◌then◌else◌, Option, List, []}
use Rattle.std.proofs.Common.{◌∷◌, ◌++◌, map, refl, ap, sym, subst, ◌∙◌, arith, inl, inr}
use Rattle.std.specs.List.{filter, list_any}
use Rattle.std.proofs.lemmas.Bool.{false≢true}
use Rattle.std.proofs.lemmas.Bool.Decides.{nat_tests}
use Rattle.air_link.specs.Downlink.{block_at}
use Rattle.air_link.specs.Draining.{drain_tti, carried}
use Rattle.air_link.specs.Link.{Link}
use Rattle.air_link.specs.Loops.{loops}
use Rattle.air_record.specs.Outcomes.{intact}
use Rattle.air_record.specs.declared.record.Record.{Record}
use Rattle.air_record.specs.declared.record.Record.TheVariants as records
use Rattle.bearer_types.specs.Sides.{sent_by}
use Rattle.bearer_types.specs.declared.event.Event.{Event}
use Rattle.bearer_types.specs.declared.event.Event.TheVariants as events
use Rattle.harq.specs.declared.sender.Order.{Order}
use Rattle.harq.specs.declared.sender.Order.TheVariants.{Free, Grant}
use Rattle.harq.specs.declared.sender.Visit.{Visit}
use Rattle.harq.specs.declared.sender.Visit.TheVariants.{New}
use Rattle.l2_node.specs.Building.{visit, visited, built, building}
use Rattle.l2_node.specs.End.{End}
use Rattle.l2_node.specs.Finding.{has}
use Rattle.l2_types.specs.declared.channel.Channel.{Channel}
use Rattle.l2_types.specs.declared.side.Side.{Side}
use Rattle.l2_types.specs.declared.side.Side.TheVariants.{Nb, Ue}
use Rattle.law_node.specs.Blocks.{pdus_by, all_sdus}
use Rattle.law_node.proofs.Naming.{tells_what_it_sends}
use Rattle.l2_node.specs.Writing.{sdus_of}
use Rattle.mac_pdu.specs.Reading.{reading}
use Rattle.mac_pdu.specs.declared.builder.Sdu.{Sdu}
use Rattle.pdu_show.specs.Carried.{sends_on, is_carried}
use Rattle.pdu_show.specs.Show.{block_shown}
use Rattle.pdu_show.specs.declared.kinds.Layout.{Layout}
use Rattle.prioritise.specs.Channels.{has as has_channel}
use Rattle.prioritise.specs.ShareLaws.{IsOneOf}
use Rattle.promises.specs.Built.{block_told}
use Rattle.promises.specs.Events.{is_of_writing}
use Rattle.promises.specs.Names.{SentPdu, sent_pdus, sent_lcids}
use Rattle.promises.specs.Records.{is_shown, is_of_building}
use Rattle.law_run.specs.AnyCalls.Ends.{GoesOn, built_told, visit_told}
use Rattle.law_run.specs.AnyCalls.Zero.{HasCome}
use Rattle.law_run.specs.DrainTtis.{grown}
use Rattle.law_run.specs.DrainShares.{WritesNone}
use Rattle.law_run.proofs.AnyCalls.Adding.{any_then}
use Rattle.law_run.proofs.AnyCalls.Going.{goes_then, loops_rests, grown_rests}
use Rattle.promises.proofs.ShownBlocks.{AllShown, block_shows}
use Rattle.law_run.proofs.AnyCalls.Visiting.{downlink_goes, uplink_sees}
use Rattle.law_run.proofs.DrainTtis.Clearing.{ordered}
use Rattle.law_run.proofs.DrainTtis.Hearing.{after_down, up_ndi}

-- ---- records that aren't told of a new block carry nothing

unwritten : (kinds : List (Option Layout)) (event : Event) → is_of_writing event ≡ false → sends_on kinds event ≡ false
unwritten kinds (events.Send lcid how sn) h = absurd (false≢true (sym h))
unwritten kinds event h = refl

unbuilt : (kinds : List (Option Layout)) (one : Record) → is_of_building one ≡ false → is_carried kinds one ≡ false
unbuilt kinds (records.Of side event) h = unwritten kinds event h
unbuilt kinds one h = refl

kept_by : (kinds : List (Option Layout)) (one : Record) (rs : List Record) (b : Bool) → is_of_building one ≡ b
    → (list_any (is_carried kinds) (filter is_of_building rs) ≡ false → list_any (is_carried kinds) rs ≡ false)
    → list_any (is_carried kinds) (cond b (one ∷ filter is_of_building rs) (filter is_of_building rs)) ≡ false
    → is_carried kinds one || list_any (is_carried kinds) rs ≡ false
kept_by kinds one rs false is more h = rw (unbuilt kinds one is) (more h)
kept_by kinds one rs true is more h = or_none (is_carried kinds one) _ _ more h
  where
    or_none : (a b c : Bool) → (b ≡ false → c ≡ false) → a || b ≡ false → a || c ≡ false
    or_none false b c then' e = then' e
    or_none true b c then' e = absurd (false≢true (sym e))

-- so it is enough to look at those that are
uncarried_when : (kinds : List (Option Layout)) (rs : List Record)
    → list_any (is_carried kinds) (filter is_of_building rs) ≡ false → list_any (is_carried kinds) rs ≡ false
uncarried_when kinds [] h = refl
uncarried_when kinds (one ∷ rs) h =
    kept_by kinds one rs (is_of_building one) refl (uncarried_when kinds rs) h

-- ---- what shows a block carries nothing

shown_uncarried : (kinds : List (Option Layout)) (one : Record) → is_shown one ≡ true → is_carried kinds one ≡ false
shown_uncarried kinds (records.Of side event) h = absurd (false≢true h)
shown_uncarried kinds one h = refl

all_uncarried : (kinds : List (Option Layout)) (rs : List Record) → AllShown rs → list_any (is_carried kinds) rs ≡ false
all_uncarried kinds [] a = refl
all_uncarried kinds (one ∷ rs) a = rw (shown_uncarried kinds one a.0) (all_uncarried kinds rs a.1)

block_uncarried : (side : Side) (t : ℕ) (layouts kinds : List (Option Layout)) (octets : List ℕ)
    → list_any (is_carried kinds) (block_told side t layouts octets) ≡ false
block_uncarried side t layouts kinds octets =
    all_uncarried kinds (block_shown (sent_by side) layouts octets)
    (block_shows layouts (reading (sent_by side) octets))

-- ---- nor do events of which none tells of a PDU that is sent

none_sent : (side : Side) (kinds : List (Option Layout)) (es : List Event) → sent_pdus es ≡ []
    → list_any (is_carried kinds) (map (records.Of side) (filter is_of_writing es)) ≡ false
none_sent side kinds [] h = refl
none_sent side kinds (events.Send lcid how sn ∷ es) h =
    let one : SentPdu = record { lcid = lcid; how = how; sn = sn } in
    let no : one ∷ sent_pdus es ≡ [] = h in
    cc
none_sent side kinds (event ∷ es) h = none_sent side kinds es h

told_uncarried : (side : Side) (t grant : ℕ) (order : Order) (layouts kinds : List (Option Layout)) (e : End)
    → visit t order e ≡ New → sent_pdus (building t grant order e) ≡ []
    → list_any (is_carried kinds) (visit_told side t grant order layouts e) ≡ false
told_uncarried side t grant order layouts kinds e new none =
    let es = map (records.Of side) (filter is_of_writing (building t grant order e)) in
    let block = block_told side t layouts (block_at t (built t grant order e)) in
    ap (λ (v : Visit). list_any (is_carried kinds) (built_told v side t grant order layouts e)) new
    ∙ any_then (is_carried kinds) es block
    ∙ ap (λ (b : Bool). b || list_any (is_carried kinds) block) (none_sent side kinds (building t grant order e) none)
    ∙ block_uncarried side t layouts kinds (block_at t (built t grant order e))

-- ---- an end of which no bearer writes tells of none that is sent

one_writes : (e : End) (grant : ℕ) (c : Channel) (b : Bool) → has c.lcid e.bearers ≡ b
    → has_channel c.lcid e.buckets.channels ≡ true → WritesNone grant e
    → (if b then sdus_of c.lcid (pdus_by e grant c) else []) ≡ []
one_writes e grant c false there here none = refl
one_writes e grant c true there here none =
    ap (sdus_of c.lcid)
    (sym (ap (λ (x : Bool). if x then pdus_by e grant c else []) here) ∙ none c.lcid there)

all_write : (e : End) (grant : ℕ) (cs : List Channel)
    → ((c : Channel) → IsOneOf c cs → has_channel c.lcid e.buckets.channels ≡ true) → WritesNone grant e
    → all_sdus e grant cs ≡ []
all_write e grant [] here none = refl
all_write e grant (c ∷ cs) here none =
    ap (λ (sdus : List Sdu). sdus ++ all_sdus e grant cs)
    (one_writes e grant c (has c.lcid e.bearers) refl (here c (inl refl)) none)
    ∙ all_write e grant cs (λ d one. here d (inr one)) none

has_one : (c : Channel) (cs : List Channel) → IsOneOf c cs → has_channel c.lcid cs ≡ true
has_one c [] one = absurd one
has_one c (d ∷ ds) (inl is) =
    let here : (c.lcid == d.lcid) ≡ true = grind (arith, nat_tests, ap (λ (x : Channel). x.lcid) is) in
    rw here refl
has_one c (d ∷ ds) (inr one) = let more = has_one c ds one in grind (arith, nat_tests, more)

unmapped : (sent : List SentPdu) → map (λ (s : SentPdu). s.lcid) sent ≡ [] → sent ≡ []
unmapped [] h = refl
unmapped (s ∷ sent) h = let no : s.lcid ∷ map (λ (s : SentPdu). s.lcid) sent ≡ [] = h in cc

sends_none : (side : Side) (t grant : ℕ) (order : Order) (e : End) → HasCome side e → visit t order e ≡ New
    → WritesNone grant (visited t order e) → sent_pdus (building t grant order e) ≡ []
sends_none side t grant order e h new none =
    let v = visited t order e in
    let told : sent_lcids (building t grant order e)
    ≡ map (λ (s : Sdu). s.lcid) (all_sdus v grant v.buckets.channels) =
    subst (λ (x : End). visit t order x ≡ New → sent_lcids (building t grant order x)
    ≡ map (λ (s : Sdu). s.lcid) (all_sdus (visited t order x) grant (visited t order x).buckets.channels))
    (sym h.end_is) (tells_what_it_sends side h.maximum h.reports h.calls h.given t grant order) new in
    unmapped (sent_pdus (building t grant order e))
    (told
    ∙ ap (map (λ (s : Sdu). s.lcid))
    (all_write v grant v.buckets.channels (λ c one. has_one c v.buckets.channels one) none))

-- ---- the whole

pub silent_round : (grant : ℕ) (m : Link) → HasCome Nb (grown m).nb → HasCome Ue (loops (after_down grant m)).ue
    → 1 ≤ grant → grant ≤ 9422 → visit m.ttis Free (grown m).nb ≡ New
    → visit m.ttis (Grant (up_ndi grant m)) (loops (after_down grant m)).ue ≡ New → m.out ≡ []
    → WritesNone grant (visited m.ttis Free (grown m).nb)
    → WritesNone grant (visited m.ttis (Grant (up_ndi grant m)) (loops (after_down grant m)).ue)
    → carried (drain_tti grant m) ≡ false
unfolding drain_tti
silent_round grant m come heard some within new_nb new_ue empty none_nb none_ue =
    let t = m.ttis in
    let j = grown m in
    let d = after_down grant m in
    let i = loops d in
    let n = drain_tti grant m in
    let order = Grant (up_ndi grant m) in
    let down = visit_told Nb t grant Free j.kinds j.nb in
    let up = visit_told Ue t grant order i.kinds i.ue in
    let sees : GoesOn down j d =
    subst (λ (o : Order). GoesOn (visit_told Nb t grant o j.kinds j.nb) j d) (ordered grant Free some)
    (downlink_goes t grant intact j within) in
    let to_i : GoesOn (([] ++ down) ++ []) m i =
    goes_then ([] ++ down) [] m d i (goes_then [] down m j d (grown_rests m).goes sees) (loops_rests d).goes in
    let goes : GoesOn ((([] ++ down) ++ []) ++ up) m n =
    goes_then (([] ++ down) ++ []) up m i n to_i (uplink_sees t grant i some within) in
    let told : list_any (is_carried n.kinds) ((([] ++ down) ++ []) ++ up) ≡ false =
    any_then (is_carried n.kinds) (down ++ []) up
    ∙ ap (λ (b : Bool). b || list_any (is_carried n.kinds) up)
    (any_then (is_carried n.kinds) down []
    ∙ ap (λ (b : Bool). b || false)
    (told_uncarried Nb t grant Free j.kinds n.kinds j.nb new_nb
    (sends_none Nb t grant Free j.nb come new_nb none_nb)))
    ∙ told_uncarried Ue t grant order i.kinds n.kinds i.ue new_ue
    (sends_none Ue t grant order i.ue heard new_ue none_ue) in
    let all : list_any (is_carried n.kinds) goes.more ≡ false =
    uncarried_when n.kinds goes.more (ap (list_any (is_carried n.kinds)) goes.blocks_are ∙ told) in
    ap (list_any (is_carried n.kinds)) (goes.out_is ∙ ap (λ (rs : List Record). rs ++ goes.more) empty) ∙ all
