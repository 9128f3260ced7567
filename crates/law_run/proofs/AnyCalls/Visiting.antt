-- How the ends of a link go on as their processes are visited.
use Rattle.std.proofs.Common.{◌≡◌, ◌≤◌, ℕ, ◌%◌, ◌==◌, Bool, true, false, if◌then◌else◌, Option, Some, None, List, []}
use Rattle.std.proofs.Common.{◌∷◌, ◌++◌, map, append_assoc, append-nil, refl, ap, sym, subst, arith, ◌∙◌}
use Rattle.std.specs.Prelude.{slice_index_or, slice_set}
use Rattle.std.specs.List.{filter}
use Rattle.std.proofs.lemmas.Bool.Decides.{nat_tests}
use Rattle.std.proofs.lemmas.List.Elements.{filter-append}
use Rattle.air_record.specs.declared.line.Fate.{Fate}
use Rattle.air_record.specs.declared.line.Fate.TheVariants.{Ok, Bad, Miss}
use Rattle.air_record.specs.declared.line.Outcome.{Outcome}
use Rattle.air_record.specs.declared.record.Arrived.TheVariants as arriveds
use Rattle.air_record.specs.declared.record.Record.{Record}
use Rattle.air_record.specs.declared.record.Record.TheVariants as records
use Rattle.harq.specs.declared.receiver.Answer.{Answer}
use Rattle.harq.specs.declared.receiver.Answer.TheVariants.{Up, Again, Damaged, Nothing}
use Rattle.harq.specs.declared.sender.Order.{Order}
use Rattle.harq.specs.declared.sender.Order.TheVariants as orders
use Rattle.harq.specs.declared.sender.Visit.{Visit}
use Rattle.harq.specs.declared.sender.Visit.TheVariants.{New, Resend, Silent as Quiet}
use Rattle.harq.specs.Receiving.{after_assigned, grant_ndi}
use Rattle.harq.specs.Sending.{visit_answer, after_feedback}
use Rattle.l2_node.specs.Building.{IsEnough, visit, visited, built, building, visit_events as building_by}
use Rattle.l2_node.specs.End.{End}
use Rattle.bearer_types.specs.Sides.{sent_by, other}
use Rattle.l2_types.specs.declared.side.Side.{Side}
use Rattle.l2_types.specs.declared.side.Side.TheVariants.{Nb, Ue}
use Rattle.mac_pdu.specs.declared.item.Direction.TheVariants as directions
use Rattle.law_node.specs.Calls.{Turn, Visits, Grants, Granted, Assigned, Pass, answered, after as after_call}
use Rattle.promises.specs.Events.{is_of_writing}
use Rattle.law_node.proofs.Looping.{tells_no_loop}
use Rattle.pdu_show.specs.Show.{block_shown}
use Rattle.pdu_show.specs.declared.kinds.Layout.{Layout}
use Rattle.air_link.specs.Link.{Link, says, with_end}
use Rattle.air_link.specs.Downlink.{builds, built_ndi, block_at, sends, feeds, told_as, is_good, saw_new, sees, answer}
use Rattle.air_link.specs.Downlink.{comes, hears_by, lands, unseen, down_order, down_by, downlink}
use Rattle.air_record.specs.Outcomes.{intact, turned}
use Rattle.air_link.specs.Uplink.{up_order, is_intact, told_as as up_told_as, granted, hears_if, aired as up_aired}
use Rattle.air_link.specs.Uplink.{awake, up_by, answers, grants, passes, uplink}
use Rattle.law_run.specs.AnyCalls.Ends.{GoesOn, built_told, visit_told}
use Rattle.promises.specs.Records.{events_of, is_of_building}
use Rattle.promises.specs.Built.{block_told}
use Rattle.law_run.proofs.AnyCalls.Going.{KeepsOn, own_told, other_told, told_both, by_same, by_one, goes_then, goes_by}
use Rattle.law_run.proofs.AnyCalls.Going.{Seen, seen, behind, blocks_of, told_seen, goes_seen, Rests, unseen_rests}
use Rattle.law_run.proofs.AnyCalls.Going.{says_rests, call_goes, hears_rests}
use Rattle.law_run.proofs.AnyCalls.Showing.{block_is_shown, shown_untold}
use Rattle.law_run.proofs.AnyCalls.Telling.{some_from}

-- ---- a visit, with the feedback on what is sent

abbrev turn_of : ℕ → ℕ → Order → Bool → Turn
turn_of t grant order good = record { tti = t; grant = grant; order = order; good = good }

abbrev fed : ℕ → Bool → End → End
fed t good e = record e { sender = after_feedback e.sender t good }

-- the turns of a visit in which something is sent, and of one in which nothing is
abbrev IsLoud : Visit → ℕ → ℕ → Order → Type 0
IsLoud v t grant order = (good : Bool) (x : End) → answered v (turn_of t grant order good) x ≡ fed t good x

visited_by : (side : Side) (told : List Record) (t grant : ℕ) (order : Order) (good : Bool) (e f : End) → grant ≤ 9422
    → IsEnough order grant
    → f ≡ answered (visit t order e) (turn_of t grant order good) (built t grant order e)
    → events_of side told ≡ building t grant order e → KeepsOn side told e f
visited_by side told t grant order good e f within enough same is =
    by_one side told (Visits (turn_of t grant order good)) e f (within, enough) refl same is

-- what the bearers tell
abbrev events_told : Side → ℕ → ℕ → Order → End → List Record
events_told side t grant order e = map (records.Of side) (filter is_of_writing (building t grant order e))

building_own : (side : Side) (t grant : ℕ) (order : Order) (e : End)
    → events_of side (map (records.Of side) (building t grant order e)) ≡ building t grant order e
building_own side t grant order e =
    own_told side (building t grant order e) (tells_no_loop e (Visits (turn_of t grant order true)))

-- without a new block they tell nothing
abbrev IsSilent : Visit → Type 0
IsSilent v = (grant : ℕ) (e : End) → building_by v grant e ≡ []

untold : (v : Visit) (side : Side) (t grant : ℕ) (order : Order) (e : End) → visit t order e ≡ v → IsSilent v
    → events_told side t grant order e ≡ []
unfolding building
untold v side t grant order e is silent =
    let none : building t grant order e ≡ [] = ap (λ (w : Visit). building_by w grant (visited t order e)) is
    ∙ silent grant (visited t order e) in
    rw none refl

-- ---- a block goes out

-- the records of a block that is sent, and what is told of it as a new one
abbrev pub sent : Visit → Side → ℕ → List (Option Layout) → List ℕ → List Record
sent New side t kinds octets = block_told side t kinds octets
sent (Resend rv) side t kinds octets = records.Block (sent_by side) (t % 8) false rv octets ∷ []
sent Quiet side t kinds octets = []

abbrev sent_told : Visit → Side → ℕ → List (Option Layout) → List ℕ → List Record
sent_told New side t kinds octets = block_told side t kinds octets
sent_told (Resend rv) side t kinds octets = []
sent_told Quiet side t kinds octets = []

sent_blocks : (v : Visit) (side : Side) (t : ℕ) (kinds : List (Option Layout)) (octets : List ℕ)
    → filter is_of_building (sent v side t kinds octets) ≡ sent_told v side t kinds octets
sent_blocks New side t kinds octets =
    ap (λ (x : List Record). records.Block (sent_by side) (t % 8) true 0 octets ∷ x)
    (block_is_shown (sent_by side) kinds octets)
sent_blocks (Resend rv) side t kinds octets = refl
sent_blocks Quiet side t kinds octets = refl

-- no event of an end
sent_untold : (v : Visit) (side by : Side) (t : ℕ) (kinds : List (Option Layout)) (octets : List ℕ)
    → events_of side (sent v by t kinds octets) ≡ []
sent_untold New side by t kinds octets = shown_untold side (sent_by by) kinds octets
sent_untold (Resend rv) side by t kinds octets = refl
sent_untold Quiet side by t kinds octets = refl

sends_seen : (v : Visit) (side : Side) (t : ℕ) (octets : List ℕ) (l : Link)
    → seen (sends v side t octets l) ≡ behind l l.nb l.ue (sent v side t l.kinds octets)
sends_seen New side t octets l =
    ap (λ (x : List Record). record { nb = l.nb; ue = l.ue; out = x; kinds = l.kinds })
    (append_assoc l.out (records.Block (sent_by side) (t % 8) true 0 octets ∷ [])
    (block_shown (sent_by side) l.kinds octets))
sends_seen (Resend rv) side t octets l = refl
sends_seen Quiet side t octets l =
    ap (λ (x : List Record). record { nb = l.nb; ue = l.ue; out = x; kinds = l.kinds }) (sym (append-nil l.out))

-- the records of a visit, what they tell of its end and of the other, and of a new block
abbrev pub visit_records : Visit → Side → ℕ → ℕ → Order → List (Option Layout) → List ℕ → End → List Record
visit_records v side t grant order kinds octets e =
    map (records.Of side) (building t grant order e) ++ sent v side t kinds octets

visit_own : (v : Visit) (side : Side) (t grant : ℕ) (order : Order) (kinds : List (Option Layout)) (octets : List ℕ)
    (e : End) → events_of side (visit_records v side t grant order kinds octets e) ≡ building t grant order e
visit_own v side t grant order kinds octets e =
    told_both side (map (records.Of side) (building t grant order e)) (sent v side t kinds octets)
    (building t grant order e) [] (building_own side t grant order e) (sent_untold v side side t kinds octets)
    ∙ append-nil (building t grant order e)

visit_other : (v : Visit) (side : Side) (t grant : ℕ) (order : Order) (kinds : List (Option Layout)) (octets : List ℕ)
    (e : End) → events_of (other side) (visit_records v side t grant order kinds octets e) ≡ []
visit_other v side t grant order kinds octets e =
    told_both (other side) (map (records.Of side) (building t grant order e)) (sent v side t kinds octets) [] []
    (other_told side (building t grant order e)) (sent_untold v (other side) side t kinds octets)

visit_blocks : (v : Visit) (side : Side) (t grant : ℕ) (order : Order) (kinds : List (Option Layout))
    (octets : List ℕ) (e : End)
    → filter is_of_building (visit_records v side t grant order kinds octets e)
    ≡ events_told side t grant order e ++ sent_told v side t kinds octets
visit_blocks v side t grant order kinds octets e =
    filter-append is_of_building (map (records.Of side) (building t grant order e)) (sent v side t kinds octets)
    ∙ ap (λ (x : List Record). x ++ filter is_of_building (sent v side t kinds octets))
    (blocks_of side (building t grant order e))
    ∙ ap (λ (x : List Record). events_told side t grant order e ++ x) (sent_blocks v side t kinds octets)

-- ---- the downlink

unseen_seen : (v : Visit) (t : ℕ) (l : Link) → seen (unseen v t l) ≡ seen l
unseen_seen New t l = refl
unseen_seen (Resend rv) t l = refl
unseen_seen Quiet t l = refl

first_if : (b : Bool) (t : ℕ) (l : Link)
    → seen (if b then l else saw_new t (record l { seen = slice_set l.seen (t % 8) true })) ≡ seen l
first_if true t l = refl
first_if false t l = refl

sees_seen : (t : ℕ) (good : Bool) (l : Link) → seen (sees t good l) ≡ seen l
sees_seen t true l = first_if (slice_index_or l.seen (t % 8) false) t l
sees_seen t false l = first_if (slice_index_or l.seen (t % 8) false) t l

-- what comes to the terminal's receiver
abbrev pub came : Fate → ℕ → Bool → End → End
came Miss t ndi e = e
came Ok t ndi e = after_call e (Assigned t ndi true)
came Bad t ndi e = after_call e (Assigned t ndi false)

pub came_by : (f : Fate) (told : List Record) (t : ℕ) (ndi : Bool) (e : End) → events_of Ue told ≡ []
    → KeepsOn Ue told e (came f t ndi e)
came_by Miss told t ndi e none = by_same Ue told e e refl none
came_by Ok told t ndi e none =
    by_one Ue told (Assigned t ndi true) e (after_call e (Assigned t ndi true)) tt refl refl none
came_by Bad told t ndi e none =
    by_one Ue told (Assigned t ndi false) e (after_call e (Assigned t ndi false)) tt refl refl none

pub comes_seen : (f : Fate) (t : ℕ) (ndi : Bool) (l : Link)
    → seen (comes f t ndi l) ≡ record { nb = l.nb; ue = came f t ndi l.ue; out = l.out; kinds = l.kinds }
comes_seen Miss t ndi l = refl
comes_seen Ok t ndi l =
    sees_seen t true (record l { ue = record l.ue { receiver = after_assigned l.ue.receiver t ndi true } })
comes_seen Bad t ndi l =
    sees_seen t false (record l { ue = record l.ue { receiver = after_assigned l.ue.receiver t ndi false } })

hears_by_rests : (a : Answer) (octets : List ℕ) (l : Link) → Rests l (hears_by a octets l)
hears_by_rests Up octets l = hears_rests Ue octets l
hears_by_rests Again octets l = unseen_rests l l refl
hears_by_rests Damaged octets l = unseen_rests l l refl
hears_by_rests Nothing octets l = unseen_rests l l refl

pub builds_down : (t grant : ℕ) (order : Order) (l : Link)
    → seen (builds Nb t grant order l)
    ≡ behind l (built t grant order l.nb) l.ue (map (records.Of Nb) (building t grant order l.nb))
builds_down t grant order l = told_seen Nb (building t grant order l.nb) (with_end Nb (built t grant order l.nb) l)

-- as the block goes out
pub sent_down : (v : Visit) (t grant : ℕ) (order : Order) (octets : List ℕ) (l : Link)
    → seen (sends v Nb t octets (unseen v t (builds Nb t grant order l)))
    ≡ behind l (built t grant order l.nb) l.ue (visit_records v Nb t grant order l.kinds octets l.nb)
sent_down v t grant order octets l =
    let m = builds Nb t grant order l in
    let es = map (records.Of Nb) (building t grant order l.nb) in
    sends_seen v Nb t octets (unseen v t m)
    ∙ ap (λ (s : Seen). record { nb = s.nb; ue = s.ue; out = s.out ++ sent v Nb t s.kinds octets; kinds = s.kinds })
    (unseen_seen v t m ∙ builds_down t grant order l)
    ∙ ap (λ (x : List Record). record { nb = built t grant order l.nb; ue = l.ue; out = x; kinds = l.kinds })
    (append_assoc l.out es (sent v Nb t l.kinds octets))

-- something is sent
goes_down : (v : Visit) (t grant : ℕ) (order : Order) (o : Outcome) (ndi : Bool) (octets : List ℕ) (l : Link)
    → visit t order l.nb ≡ v → IsLoud v t grant order → grant ≤ 9422 → IsEnough order grant
    → GoesOn (events_told Nb t grant order l.nb ++ sent_told v Nb t l.kinds octets) l
    (lands t o ndi octets (sends v Nb t octets (unseen v t (builds Nb t grant order l))))
goes_down v t grant order o ndi octets l is loud within enough =
    let told = events_told Nb t grant order l.nb ++ sent_told v Nb t l.kinds octets in
    let n = sends v Nb t octets (unseen v t (builds Nb t grant order l)) in
    let a = answer o.fate t ndi n in
    let good = turned o.flipped (is_good a) in
    let q = feeds Nb t good (comes o.fate t ndi n) in
    let one = records.Air (sent_by Nb) (told_as a) (Some good) in
    let more = visit_records v Nb t grant order l.kinds octets l.nb in
    let nb = fed t good (built t grant order l.nb) in
    let ue = came o.fate t ndi l.ue in
    let q_seen : seen q ≡ behind l nb ue more =
    ap (λ (s : Seen). record { nb = fed t good s.nb; ue = s.ue; out = s.out; kinds = s.kinds })
    (comes_seen o.fate t ndi n)
    ∙ ap (λ (s : Seen). record { nb = fed t good s.nb; ue = came o.fate t ndi s.ue; out = s.out; kinds = s.kinds })
    (sent_down v t grant order octets l) in
    let same : nb ≡ answered (visit t order l.nb) (turn_of t grant order good) (built t grant order l.nb) =
    sym (ap (λ (w : Visit). answered w (turn_of t grant order good) (built t grant order l.nb)) is
    ∙ loud good (built t grant order l.nb)) in
    let first = goes_seen told more l q nb ue q_seen (visit_blocks v Nb t grant order l.kinds octets l.nb)
    (visited_by Nb more t grant order good l.nb nb within enough same
    (visit_own v Nb t grant order l.kinds octets l.nb))
    (came_by o.fate more t ndi l.ue (visit_other v Nb t grant order l.kinds octets l.nb)) in
    goes_by told l (says one q) (hears_by a octets (says one q))
    (goes_by told l q (says one q) first (says_rests one q refl refl refl).goes)
    (hears_by_rests a octets (says one q)).goes

quiet_down : (t grant : ℕ) (order : Order) (l : Link) → visit t order l.nb ≡ Quiet → grant ≤ 9422
    → IsEnough order grant → GoesOn (events_told Nb t grant order l.nb) l (builds Nb t grant order l)
quiet_down t grant order l is within enough =
    let es = building t grant order l.nb in
    let e = built t grant order l.nb in
    goes_seen (events_told Nb t grant order l.nb) (map (records.Of Nb) es) l (builds Nb t grant order l) e l.ue
    (builds_down t grant order l) (blocks_of Nb es)
    (visited_by Nb (map (records.Of Nb) es) t grant order true l.nb e within enough
    (sym (ap (λ (w : Visit). answered w (turn_of t grant order true) e) is)) (building_own Nb t grant order l.nb))
    (by_same Ue (map (records.Of Nb) es) l.ue l.ue refl (other_told Nb es))

down_by_goes : (v : Visit) (t grant : ℕ) (order : Order) (o : Outcome) (ndi : Bool) (l : Link)
    → visit t order l.nb ≡ v → grant ≤ 9422 → IsEnough order grant
    → GoesOn (built_told v Nb t grant order l.kinds l.nb) l (down_by v t o ndi (builds Nb t grant order l))
down_by_goes New t grant order o ndi l is within enough =
    let m = builds Nb t grant order l in
    subst (λ (e : End). GoesOn (events_told Nb t grant order l.nb ++ block_told Nb t l.kinds (block_at t e)) l
    (down_by New t o ndi m)) (ap (λ (s : Seen). s.nb) (builds_down t grant order l))
    (goes_down New t grant order o ndi (block_at t m.nb) l is (λ good x. refl) within enough)
down_by_goes (Resend rv) t grant order o ndi l is within enough =
    let m = builds Nb t grant order l in
    subst (λ (told : List Record). GoesOn (told ++ []) l (down_by (Resend rv) t o ndi m))
    (untold (Resend rv) Nb t grant order l.nb is (λ g e. refl))
    (goes_down (Resend rv) t grant order o ndi (block_at t m.nb) l is (λ good x. refl) within enough)
down_by_goes Quiet t grant order o ndi l is within enough =
    subst (λ (told : List Record). GoesOn told l (builds Nb t grant order l))
    (untold Quiet Nb t grant order l.nb is (λ g e. refl)) (quiet_down t grant order l is within enough)

enough_down : (b : Bool) (grant : ℕ) → (grant == 0) ≡ b → IsEnough (if b then orders.Silent else orders.Free) grant
enough_down true grant e = tt
enough_down false grant e = some_from grant e

pub enough_by_grant : (grant : ℕ) → IsEnough (down_order grant) grant
enough_by_grant grant = enough_down (grant == 0) grant refl

pub downlink_goes : (t grant : ℕ) (o : Outcome) (l : Link) → grant ≤ 9422
    → GoesOn (visit_told Nb t grant (down_order grant) l.kinds l.nb) l (downlink t grant o l)
unfolding downlink
downlink_goes t grant o l within =
    let order = down_order grant in
    down_by_goes (visit t order l.nb) t grant order o (built_ndi Nb t grant order l) l refl within
    (enough_by_grant grant)

-- ---- the uplink

awake_seen : (v : Visit) (t : ℕ) (l : Link) → seen (awake v t l) ≡ seen l
awake_seen New t l = refl
awake_seen (Resend rv) t l = refl
awake_seen Quiet t l = refl

hears_if_rests : (good : Bool) (octets : List ℕ) (l : Link) → Rests l (hears_if good octets l)
hears_if_rests true octets l = hears_rests Nb octets l
hears_if_rests false octets l = unseen_rests l l refl

pub builds_up : (t grant : ℕ) (order : Order) (l : Link)
    → seen (builds Ue t grant order l)
    ≡ behind l l.nb (built t grant order l.ue) (map (records.Of Ue) (building t grant order l.ue))
builds_up t grant order l = told_seen Ue (building t grant order l.ue) (with_end Ue (built t grant order l.ue) l)

pub sent_up : (v : Visit) (t grant : ℕ) (order : Order) (octets : List ℕ) (l : Link)
    → seen (sends v Ue t octets (awake v t (builds Ue t grant order l)))
    ≡ behind l l.nb (built t grant order l.ue) (visit_records v Ue t grant order l.kinds octets l.ue)
sent_up v t grant order octets l =
    let m = builds Ue t grant order l in
    let es = map (records.Of Ue) (building t grant order l.ue) in
    sends_seen v Ue t octets (awake v t m)
    ∙ ap (λ (s : Seen). record { nb = s.nb; ue = s.ue; out = s.out ++ sent v Ue t s.kinds octets; kinds = s.kinds })
    (awake_seen v t m ∙ builds_up t grant order l)
    ∙ ap (λ (x : List Record). record { nb = l.nb; ue = built t grant order l.ue; out = x; kinds = l.kinds })
    (append_assoc l.out es (sent v Ue t l.kinds octets))

goes_up : (v : Visit) (t grant : ℕ) (order : Order) (o : Outcome) (octets : List ℕ) (l : Link)
    → visit t order l.ue ≡ v → IsLoud v t grant order → grant ≤ 9422 → IsEnough order grant
    → GoesOn (events_told Ue t grant order l.ue ++ sent_told v Ue t l.kinds octets) l
    (up_aired t o.flipped (is_intact o.fate) octets (sends v Ue t octets (awake v t (builds Ue t grant order l))))
goes_up v t grant order o octets l is loud within enough =
    let told = events_told Ue t grant order l.ue ++ sent_told v Ue t l.kinds octets in
    let intact = is_intact o.fate in
    let good = turned o.flipped intact in
    let n = sends v Ue t octets (awake v t (builds Ue t grant order l)) in
    let q = feeds Ue t good (granted t (Some intact) n) in
    let one = records.Air directions.Up (up_told_as intact) (Some good) in
    let more = visit_records v Ue t grant order l.kinds octets l.ue in
    let nb = after_call l.nb (Granted t (Some intact)) in
    let ue = fed t good (built t grant order l.ue) in
    let q_seen : seen q ≡ behind l nb ue more =
    ap (λ (s : Seen). record {
      nb = after_call s.nb (Granted t (Some intact));
      ue = fed t good s.ue;
      out = s.out;
      kinds = s.kinds;
    }) (sent_up v t grant order octets l) in
    let same : ue ≡ answered (visit t order l.ue) (turn_of t grant order good) (built t grant order l.ue) =
    sym (ap (λ (w : Visit). answered w (turn_of t grant order good) (built t grant order l.ue)) is
    ∙ loud good (built t grant order l.ue)) in
    let first = goes_seen told more l q nb ue q_seen (visit_blocks v Ue t grant order l.kinds octets l.ue)
    (by_one Nb more (Granted t (Some intact)) l.nb nb tt refl refl (visit_other v Ue t grant order l.kinds octets l.ue))
    (visited_by Ue more t grant order good l.ue ue within enough same
    (visit_own v Ue t grant order l.kinds octets l.ue)) in
    goes_by told l (says one q) (hears_if intact octets (says one q))
    (goes_by told l q (says one q) first (says_rests one q refl refl refl).goes)
    (hears_if_rests intact octets (says one q)).goes

quiet_up : (t grant : ℕ) (order : Order) (l : Link) → visit t order l.ue ≡ Quiet → grant ≤ 9422 → IsEnough order grant
    → GoesOn [] l (builds Ue t grant order l)
quiet_up t grant order l is within enough =
    let es = building t grant order l.ue in
    let e = built t grant order l.ue in
    subst (λ (told : List Record). GoesOn told l (builds Ue t grant order l))
    (untold Quiet Ue t grant order l.ue is (λ x y. refl))
    (goes_seen (events_told Ue t grant order l.ue) (map (records.Of Ue) es) l (builds Ue t grant order l) l.nb e
    (builds_up t grant order l) (blocks_of Ue es)
    (by_same Nb (map (records.Of Ue) es) l.nb l.nb refl (other_told Ue es))
    (visited_by Ue (map (records.Of Ue) es) t grant order true l.ue e within enough
    (sym (ap (λ (w : Visit). answered w (turn_of t grant order true) e) is))
    (building_own Ue t grant order l.ue)))

up_by_goes : (v : Visit) (t grant : ℕ) (order : Order) (o : Outcome) (l : Link) → visit t order l.ue ≡ v
    → grant ≤ 9422 → IsEnough order grant
    → GoesOn (built_told v Ue t grant order l.kinds l.ue) l (up_by v t o (builds Ue t grant order l))
up_by_goes New t grant order o l is within enough =
    let m = builds Ue t grant order l in
    subst (λ (e : End). GoesOn (events_told Ue t grant order l.ue ++ block_told Ue t l.kinds (block_at t e)) l
    (up_by New t o m)) (ap (λ (s : Seen). s.ue) (builds_up t grant order l))
    (goes_up New t grant order o (block_at t m.ue) l is (λ good x. refl) within enough)
up_by_goes (Resend rv) t grant order o l is within enough =
    let m = builds Ue t grant order l in
    subst (λ (told : List Record). GoesOn (told ++ []) l (up_by (Resend rv) t o m))
    (untold (Resend rv) Ue t grant order l.ue is (λ g e. refl))
    (goes_up (Resend rv) t grant order o (block_at t m.ue) l is (λ good x. refl) within enough)
up_by_goes Quiet t grant order o l is within enough =
    let m = builds Ue t grant order l in
    let n = granted t None m in
    let first = goes_by [] l m n (quiet_up t grant order l is within enough)
    (call_goes Nb (Granted t None) m tt refl refl) in
    goes_by [] l n (says (records.Air directions.Up arriveds.Nothing None) n) first
    (says_rests (records.Air directions.Up arriveds.Nothing None) n refl refl refl).goes

-- the terminal is visited by some order
pub record GoesUp (t grant : ℕ) (l m : Link) : Type 0 where
  pub order : Order
  pub enough : IsEnough order grant
  pub goes : GoesOn (visit_told Ue t grant order l.kinds l.ue) l m

enough_up : (f : Fate) (ndi : Bool) (grant : ℕ) → 1 ≤ grant → IsEnough (up_order f ndi) grant
enough_up Ok ndi grant some = some
enough_up Bad ndi grant some = some
enough_up Miss ndi grant some = tt

grants_go : (t grant : ℕ) (o : Outcome) (l : Link) → 1 ≤ grant → grant ≤ 9422
    → GoesOn (visit_told Ue t grant (up_order o.fate (grant_ndi l.nb.receiver t)) l.kinds l.ue) l (grants t grant o l)
grants_go t grant o l some within =
    let order = up_order o.fate (grant_ndi l.nb.receiver t) in
    let m = with_end Nb (after_call l.nb (Grants t)) l in
    let told = visit_told Ue t grant order l.kinds l.ue in
    let enough = enough_up o.fate (grant_ndi l.nb.receiver t) grant some in
    goes_then [] told l m (answers t grant order o m) (call_goes Nb (Grants t) l tt refl refl)
    (up_by_goes (visit t order l.ue) t grant order o m refl within enough)

grants_goes : (t grant : ℕ) (o : Outcome) (l : Link) → 1 ≤ grant → grant ≤ 9422 → GoesUp t grant l (grants t grant o l)
grants_goes t grant o l some within = record {
  order = up_order o.fate (grant_ndi l.nb.receiver t);
  enough = enough_up o.fate (grant_ndi l.nb.receiver t) grant some;
  goes = grants_go t grant o l some within;
}

passes_goes : (t grant : ℕ) (l : Link) → GoesUp t grant l (passes t l)
unfolding visit_answer
passes_goes t grant l =
    let m = builds Ue t 0 orders.Silent l in
    record {
      order = orders.Silent;
      enough = tt;
      goes = goes_then [] [] l m (passes t l) (quiet_up t 0 orders.Silent l refl (omega arith) tt)
          (call_goes Nb (Pass t) m tt refl refl);
    }

goes_if : (b : Bool) (t grant : ℕ) (o : Outcome) (l : Link) → (grant == 0) ≡ b → grant ≤ 9422
    → GoesUp t grant l (if b then passes t l else grants t grant o l)
goes_if true t grant o l e within = passes_goes t grant l
goes_if false t grant o l e within = grants_goes t grant o l (some_from grant e) within

pub uplink_goes : (t grant : ℕ) (o : Outcome) (l : Link) → grant ≤ 9422 → GoesUp t grant l (uplink t grant o l)
unfolding uplink
uplink_goes t grant o l within = goes_if (grant == 0) t grant o l refl within

-- where it sees the grant
pub uplink_sees : (t grant : ℕ) (l : Link) → 1 ≤ grant → grant ≤ 9422
    → GoesOn (visit_told Ue t grant (orders.Grant (grant_ndi l.nb.receiver t)) l.kinds l.ue) l
    (uplink t grant intact l)
unfolding uplink
uplink_sees t grant l some within =
    let no : (grant == 0) ≡ false = grind (arith, nat_tests, some) in
    subst (λ (b : Bool). GoesOn (visit_told Ue t grant (orders.Grant (grant_ndi l.nb.receiver t)) l.kinds l.ue) l
    (if b then passes t l else grants t grant intact l)) (sym no) (grants_go t grant intact l some within)
