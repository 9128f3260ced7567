-- Records of a block, of what an end tells and of what comes are what happens to the flows of an unacknowledged
-- channel.
use Rattle.std.proofs.Common.{◌≡◌, ℕ, ◌%◌, ◌==◌, Bool, true, false, if◌then◌else◌, Option, Some, None, List, [], ◌∷◌}
use Rattle.std.proofs.Common.{◌++◌, map, length, slice_index_or, Result, Ok, Err, append-nil, append_assoc, refl, ap}
use Rattle.std.proofs.Common.{sym, arith, ◌∙◌}
use Rattle.std.proofs.lemmas.Bool.Decides.{nat_tests}
use Rattle.std.proofs.lemmas.List.{length-map}
use Rattle.std.specs.List.{AllByRecursion}
use Rattle.bearer_types.specs.Sides.{other, sent_by}
use Rattle.air_record.specs.declared.record.Arrived.TheVariants.{Got}
use Rattle.air_record.specs.declared.record.Record.{Record}
use Rattle.air_record.specs.declared.record.Record.TheVariants as records
use Rattle.bearer_types.specs.declared.event.Event.{Event}
use Rattle.bearer_types.specs.declared.event.Event.TheVariants as events
use Rattle.promises.specs.Pdus.{pdus_in, pdus_among, pdus_read, carried}
use Rattle.harq.specs.declared.sender.Visit.{Visit}
use Rattle.harq.specs.declared.sender.Visit.TheVariants.{New, Resend, Silent as Quiet}
use Rattle.l2_node.specs.Building.{visit, visited, built, building}
use Rattle.l2_node.specs.End.{End}
use Rattle.l2_types.specs.declared.event.Clock.TheVariants.{Poll, Reorder, Prohibit}
use Rattle.l2_types.specs.declared.side.Side.{Side}
use Rattle.l2_types.specs.declared.side.Side.TheVariants.{Nb, Ue}
use Rattle.law_run.proofs.AnyCalls.Blocks.{block_is}
use Rattle.law_run.proofs.AnyCalls.Visiting.{sent, visit_records}
use Rattle.law_node.specs.Calls.{Turn, Visits}
use Rattle.air_link.specs.Downlink.{block_at}
use Rattle.law_deliver.specs.AmFlow.Air.{HasCome}
use Rattle.mac_pdu.specs.declared.fault.MacRefusal.{MacRefusal}
use Rattle.mac_pdu.specs.declared.item.Direction.{Direction}
use Rattle.mac_pdu.specs.Items.{MacItem, front, element, sdu, padding}
use Rattle.mac_pdu.specs.Reading.{reading}
use Rattle.pdcp_pdu.specs.declared.pdu.PdcpKind.{PdcpKind}
use Rattle.pdcp_pdu.specs.declared.pdu.PdcpKind.TheVariants as pdcp
use Rattle.pdcp_pdu.specs.declared.pdu.PdcpRefusal.{PdcpRefusal}
use Rattle.pdcp_pdu.specs.Pdus.{UserPdu, Sdu, Report, SrbPdu}
use Rattle.pdcp_pdu.specs.Reading.{user_at, srb_at}
use Rattle.pdu_show.specs.declared.kinds.Layout.{Layout}
use Rattle.pdu_show.specs.declared.kinds.Layout.TheVariants as layouts
use Rattle.pdu_show.specs.Show.{user_shown, srb_shown, pdcp_shown, tm_shown, um_shown, amd_shown, am_shown, rlc_shown}
use Rattle.pdu_show.specs.Show.{wholes_shown, whole, begins, ends, item_shown, items_shown, shown_by}
use Rattle.rlc_pdu.specs.declared.fault.RlcRefusal.{RlcRefusal}
use Rattle.rlc_pdu.specs.declared.pdu.Segment.{Segment}
use Rattle.rlc_pdu.specs.Pdus.{UmdPdu, AmdPdu, AcknowledgedPdu, Payload, Status}
use Rattle.rlc_pdu.specs.Reading.{umd_at, am_at}
use Rattle.um_losses.specs.declared.cursor.Cursor.{Cursor}
use Rattle.um_losses.specs.declared.flow.Happening.{Happening}
use Rattle.um_losses.specs.declared.flow.Happening.TheVariants.{BlockRenewed, PduWritten, BlockArrived}
use Rattle.um_losses.specs.Records.{passed, change_of}
use Rattle.um_losses.specs.Told.{picked, told_in, place_behind, block_place, sdu_place}
use Rattle.law_deliver.specs.UmGaps.Whats.{expiry_in, expiries, as_written, written, built as built_whats}
use Rattle.law_run.specs.TwoEnds.Shown.{IsShown}
use Rattle.law_run.proofs.TwoEnds.Going.{Whats}
use Rattle.law_run.proofs.TwoEnds.Steps.{call_whats}
use Rattle.law_run.proofs.TwoEnds.Stations.{come_eight}

-- ---- records, and then others

pub in_then : (d : Direction) (l : ℕ) (c : Cursor) (xs ys : List Record)
    → told_in d l c (xs ++ ys) ≡ told_in d l c xs ++ told_in d l (place_behind c xs) ys
in_then d l c [] ys = refl
in_then d l c (x ∷ xs) ys =
    ap (λ (ws : List Happening). picked d l (change_of x c) ++ ws) (in_then d l (passed x c) xs ys)
    ∙ sym (append_assoc (picked d l (change_of x c)) (told_in d l (passed x c) xs)
    (told_in d l (place_behind (passed x c) xs) ys))

pub behind_then : (c : Cursor) (xs ys : List Record) → place_behind c (xs ++ ys) ≡ place_behind (place_behind c xs) ys
behind_then c [] ys = refl
behind_then c (x ∷ xs) ys = behind_then (passed x c) xs ys

-- what is told by two lists
pub in_both : (d : Direction) (l : ℕ) (c : Cursor) (xs ys : List Record) (vs ws : List Happening)
    → told_in d l c xs ≡ vs → told_in d l (place_behind c xs) ys ≡ ws → told_in d l c (xs ++ ys) ≡ vs ++ ws
in_both d l c xs ys vs ws p q = in_then d l c xs ys
    ∙ ap (λ (zs : List Happening). zs ++ told_in d l (place_behind c xs) ys) p
    ∙ ap (λ (zs : List Happening). vs ++ zs) q

-- ---- records that say nothing of flows

pub record IsStill (one : Record) : Type 0 where
  pub none : (c : Cursor) → change_of one c ≡ None
  pub stays : (c : Cursor) → passed one c ≡ c

pub still_all : (d : Direction) (l : ℕ) (c : Cursor) (told : List Record) → AllByRecursion IsStill told
    → told_in d l c told ≡ []
still_all d l c [] h = refl
still_all d l c (x ∷ xs) h = ap (λ o. picked d l o ++ told_in d l (passed x c) xs) (h.0.none c)
    ∙ still_all d l (passed x c) xs h.1

pub still_behind : (c : Cursor) (told : List Record) → AllByRecursion IsStill told → place_behind c told ≡ c
still_behind c [] h = refl
still_behind c (x ∷ xs) h = ap (λ (p : Cursor). place_behind p xs) (h.0.stays c) ∙ still_behind c xs h.1

-- ---- what an end tells

abbrev none_told : List Happening
none_told = []

neither : (b : Bool) → none_told ≡ (if b then none_told else none_told)
neither true = refl
neither false = refl

one_own : (from : Side) (l : ℕ) (c : Cursor) (e : Event)
    → picked (sent_by from) l (change_of (records.Of (other from) e) c) ≡ expiry_in l e
one_own Nb l c (events.Expired lcid Reorder) = refl
one_own Nb l c (events.Expired lcid Poll) = neither (lcid == l)
one_own Nb l c (events.Expired lcid Prohibit) = neither (lcid == l)
one_own Nb l c e = refl
one_own Ue l c (events.Expired lcid Reorder) = refl
one_own Ue l c (events.Expired lcid Poll) = neither (lcid == l)
one_own Ue l c (events.Expired lcid Prohibit) = neither (lcid == l)
one_own Ue l c e = refl

one_hidden : (from : Side) (l : ℕ) (c : Cursor) (e : Event)
    → picked (sent_by from) l (change_of (records.Of from e) c) ≡ []
one_hidden Nb l c (events.Expired lcid Reorder) = refl
one_hidden Nb l c e = refl
one_hidden Ue l c (events.Expired lcid Reorder) = refl
one_hidden Ue l c e = refl

pub events_behind : (side : Side) (es : List Event) (c : Cursor) → place_behind c (map (records.Of side) es) ≡ c
events_behind side [] c = refl
events_behind side (e ∷ es) c = events_behind side es c

-- of the direction that it hears these are the expiries of its reordering timer
pub events_own : (from : Side) (l : ℕ) (c : Cursor) (es : List Event)
    → told_in (sent_by from) l c (map (records.Of (other from)) es) ≡ expiries l es
events_own from l c [] = refl
events_own from l c (e ∷ es) =
    ap (λ (ws : List Happening). ws ++ told_in (sent_by from) l c (map (records.Of (other from)) es))
    (one_own from l c e)
    ∙ ap (λ (ws : List Happening). expiry_in l e ++ ws) (events_own from l c es)

pub events_hidden : (from : Side) (l : ℕ) (c : Cursor) (es : List Event)
    → told_in (sent_by from) l c (map (records.Of from) es) ≡ []
events_hidden from l c [] = refl
events_hidden from l c (e ∷ es) =
    ap (λ (ws : List Happening). ws ++ told_in (sent_by from) l c (map (records.Of from) es)) (one_hidden from l c e)
    ∙ events_hidden from l c es

-- ---- PDCP PDUs

user_still : (r : Result UserPdu PdcpRefusal) → IsStill (user_shown r)
user_still (Ok (Sdu sn octets)) = record { none = λ c. refl; stays = λ c. refl }
user_still (Ok (Report fms bitmap)) = record { none = λ c. refl; stays = λ c. refl }
user_still (Err fault) = record { none = λ c. refl; stays = λ c. refl }

srb_still : (r : Result SrbPdu PdcpRefusal) → IsStill (srb_shown r)
srb_still (Ok pdu) = record { none = λ c. refl; stays = λ c. refl }
srb_still (Err fault) = record { none = λ c. refl; stays = λ c. refl }

pdcp_still : (k : PdcpKind) (octets : List ℕ) → IsStill (pdcp_shown k octets)
pdcp_still pdcp.Srb octets = srb_still (srb_at octets)
pdcp_still (pdcp.Um bits) octets = user_still (user_at bits octets)
pdcp_still (pdcp.Am bits) octets = user_still (user_at bits octets)

all_still : (k : PdcpKind) (xs : List (List ℕ)) → AllByRecursion IsStill (map (pdcp_shown k) xs)
all_still k [] = tt
all_still k (x ∷ xs) = (pdcp_still k x, all_still k xs)

wholes_none : (d : Direction) (l : ℕ) (c : Cursor) (k : PdcpKind) (fi : ℕ) (elements : List (List ℕ))
    → told_in d l c (wholes_shown k fi elements) ≡ []
wholes_none d l c k fi elements =
    still_all d l c (wholes_shown k fi elements) (all_still k (whole (begins fi) (ends fi) elements))

wholes_behind : (c : Cursor) (k : PdcpKind) (fi : ℕ) (elements : List (List ℕ))
    → place_behind c (wholes_shown k fi elements) ≡ c
wholes_behind c k fi elements =
    still_behind c (wholes_shown k fi elements) (all_still k (whole (begins fi) (ends fi) elements))

-- ---- RLC PDUs

tm_still : (octets : List ℕ) → AllByRecursion IsStill (tm_shown octets)
tm_still [] = (record { none = λ c. refl; stays = λ c. refl }, tt)
tm_still (x ∷ xs) = (record { none = λ c. refl; stays = λ c. refl }, tt)

amd_still : (k : PdcpKind) (pdu : AmdPdu) (s : Option Segment) → AllByRecursion IsStill (amd_shown k pdu s)
amd_still k pdu None =
    (record { none = λ c. refl; stays = λ c. refl }, all_still k (whole (begins pdu.fi) (ends pdu.fi) pdu.elements))
amd_still k pdu (Some s) = (record { none = λ c. refl; stays = λ c. refl }, tt)

am_still : (k : PdcpKind) (r : Result AcknowledgedPdu RlcRefusal) → AllByRecursion IsStill (am_shown k r)
am_still k (Ok (Payload pdu)) = amd_still k pdu pdu.segment
am_still k (Ok (Status pdu)) = (record { none = λ c. refl; stays = λ c. refl }, tt)
am_still k (Err fault) = (record { none = λ c. refl; stays = λ c. refl }, tt)

um_behind : (k : PdcpKind) (r : Result UmdPdu RlcRefusal) (c : Cursor) → place_behind c (um_shown k r) ≡ c
um_behind k (Ok pdu) c = wholes_behind c k pdu.fi pdu.elements
um_behind k (Err fault) c = refl

rlc_behind : (lay : Option Layout) (octets : List ℕ) (c : Cursor) → place_behind c (rlc_shown lay octets) ≡ c
unfolding rlc_shown
rlc_behind None octets c = refl
rlc_behind (Some layouts.Tm) octets c = still_behind c (tm_shown octets) (tm_still octets)
rlc_behind (Some (layouts.Um bits k)) octets c = um_behind k (umd_at bits octets) c
rlc_behind (Some (layouts.Am k)) octets c = still_behind c (am_shown k (am_at octets)) (am_still k (am_at octets))

-- of another channel, or of another direction
um_apart : (from : Side) (l p lcid : ℕ) (k : PdcpKind) (r : Result UmdPdu RlcRefusal) → (lcid == l) ≡ false
    → told_in (sent_by from) l (sdu_place (sent_by from) p lcid) (um_shown k r) ≡ []
um_apart Nb l p lcid k (Ok pdu) e =
    rw e (wholes_none (sent_by Nb) l (sdu_place (sent_by Nb) p lcid) k pdu.fi pdu.elements)
um_apart Ue l p lcid k (Ok pdu) e =
    rw e (wholes_none (sent_by Ue) l (sdu_place (sent_by Ue) p lcid) k pdu.fi pdu.elements)
um_apart from l p lcid k (Err fault) e = refl

um_hidden : (from : Side) (l p lcid : ℕ) (k : PdcpKind) (r : Result UmdPdu RlcRefusal)
    → told_in (sent_by (other from)) l (sdu_place (sent_by from) p lcid) (um_shown k r) ≡ []
um_hidden Nb l p lcid k (Ok pdu) =
    wholes_none (sent_by (other Nb)) l (sdu_place (sent_by Nb) p lcid) k pdu.fi pdu.elements
um_hidden Ue l p lcid k (Ok pdu) =
    wholes_none (sent_by (other Ue)) l (sdu_place (sent_by Ue) p lcid) k pdu.fi pdu.elements
um_hidden from l p lcid k (Err fault) = refl

rlc_apart : (from : Side) (l p lcid : ℕ) (lay : Option Layout) (octets : List ℕ) → (lcid == l) ≡ false
    → told_in (sent_by from) l (sdu_place (sent_by from) p lcid) (rlc_shown lay octets) ≡ []
unfolding rlc_shown
rlc_apart from l p lcid None octets e = refl
rlc_apart from l p lcid (Some layouts.Tm) octets e = still_all (sent_by from) l _ (tm_shown octets) (tm_still octets)
rlc_apart from l p lcid (Some (layouts.Um bits k)) octets e = um_apart from l p lcid k (umd_at bits octets) e
rlc_apart from l p lcid (Some (layouts.Am k)) octets e =
    still_all (sent_by from) l _ (am_shown k (am_at octets)) (am_still k (am_at octets))

rlc_hidden : (from : Side) (l p lcid : ℕ) (lay : Option Layout) (octets : List ℕ)
    → told_in (sent_by (other from)) l (sdu_place (sent_by from) p lcid) (rlc_shown lay octets) ≡ []
unfolding rlc_shown
rlc_hidden from l p lcid None octets = refl
rlc_hidden from l p lcid (Some layouts.Tm) octets =
    still_all (sent_by (other from)) l _ (tm_shown octets) (tm_still octets)
rlc_hidden from l p lcid (Some (layouts.Um bits k)) octets = um_hidden from l p lcid k (umd_at bits octets)
rlc_hidden from l p lcid (Some (layouts.Am k)) octets =
    still_all (sent_by (other from)) l _ (am_shown k (am_at octets)) (am_still k (am_at octets))

-- of the channel
um_own : (from : Side) (l p lcid : ℕ) (k : PdcpKind) (r : Result UmdPdu RlcRefusal) → (lcid == l) ≡ true
    → told_in (sent_by from) l (sdu_place (sent_by from) p lcid) (um_shown k r) ≡ as_written p r
um_own Nb l p lcid k (Ok pdu) e =
    rw e
    (ap
    (λ (ws : List Happening). PduWritten p
    (record { sn = pdu.sn; fi = pdu.fi; elements = length (map length pdu.elements) }) ∷ ws)
    (wholes_none (sent_by Nb) l (sdu_place (sent_by Nb) p lcid) k pdu.fi pdu.elements)
    ∙ ap (λ (n : ℕ). PduWritten p (record { sn = pdu.sn; fi = pdu.fi; elements = n }) ∷ [])
    (length-map pdu.elements length))
um_own Ue l p lcid k (Ok pdu) e =
    rw e
    (ap
    (λ (ws : List Happening). PduWritten p
    (record { sn = pdu.sn; fi = pdu.fi; elements = length (map length pdu.elements) }) ∷ ws)
    (wholes_none (sent_by Ue) l (sdu_place (sent_by Ue) p lcid) k pdu.fi pdu.elements)
    ∙ ap (λ (n : ℕ). PduWritten p (record { sn = pdu.sn; fi = pdu.fi; elements = n }) ∷ [])
    (length-map pdu.elements length))
um_own Nb l p lcid k (Err fault) e = refl
um_own Ue l p lcid k (Err fault) e = refl

rlc_own : (from : Side) (l p bits : ℕ) (k : PdcpKind) (octets : List ℕ) (lcid : ℕ) → (lcid == l) ≡ true
    → told_in (sent_by from) l (sdu_place (sent_by from) p lcid) (rlc_shown (Some (layouts.Um bits k)) octets)
    ≡ as_written p (umd_at bits octets)
unfolding rlc_shown
rlc_own from l p bits k octets lcid e = um_own from l p lcid k (umd_at bits octets) e

-- ---- MAC SDUs

module _ (from : Side) (l p bits : ℕ) (kinds : List (Option Layout)) where
  abbrev d : Direction
  d = sent_by from

  sdu_by : (b : Bool) (lcid : ℕ) (octets : List ℕ) → IsShown l bits kinds → (lcid == l) ≡ b
      → told_in d l (sdu_place d p lcid) (rlc_shown (slice_index_or kinds lcid None) octets)
      ≡ written bits p (if b then octets ∷ [] else [])
  sdu_by true lcid octets h e =
      let same : lcid ≡ l = grind (arith, nat_tests) in
      ap (λ (n : ℕ). told_in d l (sdu_place d p lcid) (rlc_shown (slice_index_or kinds n None) octets)) same
      ∙ ap (λ (o : Option Layout). told_in d l (sdu_place d p lcid) (rlc_shown o octets)) h.is
      ∙ rlc_own from l p bits h.kind octets lcid e ∙ sym (append-nil (as_written p (umd_at bits octets)))
  sdu_by false lcid octets h e = rlc_apart from l p lcid (slice_index_or kinds lcid None) octets e

  written_then : (xs ys : List (List ℕ)) → written bits p (xs ++ ys) ≡ written bits p xs ++ written bits p ys
  written_then [] ys = refl
  written_then (x ∷ xs) ys = ap (λ (ws : List Happening). as_written p (umd_at bits x) ++ ws) (written_then xs ys)
      ∙ sym (append_assoc (as_written p (umd_at bits x)) (written bits p xs) (written bits p ys))

  items_own : (is : List MacItem) (channel : Option ℕ) → IsShown l bits kinds
      → told_in d l (record { direction = d; process = p; channel = channel }) (items_shown kinds is)
      ≡ written bits p (pdus_among l is)
  unfolding item_shown
  items_own [] channel h = refl
  items_own (front ∷ is) channel h = items_own is channel h
  items_own (element control ∷ is) channel h = items_own is channel h
  items_own (sdu lcid octets ∷ is) channel h =
      let rlc = rlc_shown (slice_index_or kinds lcid None) octets in
      in_both d l (sdu_place d p lcid) rlc (items_shown kinds is) (written bits p (pdus_in l (sdu lcid octets)))
      (written bits p (pdus_among l is)) (sdu_by (lcid == l) lcid octets h refl)
      (ap (λ (c : Cursor). told_in d l c (items_shown kinds is))
      (rlc_behind (slice_index_or kinds lcid None) octets (sdu_place d p lcid)) ∙ items_own is (Some lcid) h)
      ∙ sym (written_then (pdus_in l (sdu lcid octets)) (pdus_among l is))
  items_own (padding n ∷ is) channel h = items_own is channel h

  items_hidden : (is : List MacItem) (channel : Option ℕ)
      → told_in (sent_by (other from)) l (record { direction = d; process = p; channel = channel })
      (items_shown kinds is) ≡ []
  unfolding item_shown
  items_hidden [] channel = refl
  items_hidden (front ∷ is) channel = items_hidden is channel
  items_hidden (element control ∷ is) channel = items_hidden is channel
  items_hidden (sdu lcid octets ∷ is) channel =
      let rlc = rlc_shown (slice_index_or kinds lcid None) octets in
      in_both (sent_by (other from)) l (sdu_place d p lcid) rlc (items_shown kinds is) [] []
      (rlc_hidden from l p lcid (slice_index_or kinds lcid None) octets)
      (ap (λ (c : Cursor). told_in (sent_by (other from)) l c (items_shown kinds is))
      (rlc_behind (slice_index_or kinds lcid None) octets (sdu_place d p lcid)) ∙ items_hidden is (Some lcid))
  items_hidden (padding n ∷ is) channel = items_hidden is channel

  items_behind : (is : List MacItem) (channel : Option ℕ)
      → (place_behind (record { direction = d; process = p; channel = channel }) (items_shown kinds is)).process ≡ p
  unfolding item_shown
  items_behind [] channel = refl
  items_behind (front ∷ is) channel = items_behind is channel
  items_behind (element control ∷ is) channel = items_behind is channel
  items_behind (sdu lcid octets ∷ is) channel =
      let rlc = rlc_shown (slice_index_or kinds lcid None) octets in
      ap (λ (c : Cursor). c.process) (behind_then (sdu_place d p lcid) rlc (items_shown kinds is))
      ∙ ap (λ (c : Cursor). (place_behind c (items_shown kinds is)).process)
      (rlc_behind (slice_index_or kinds lcid None) octets (sdu_place d p lcid)) ∙ items_behind is (Some lcid)
  items_behind (padding n ∷ is) channel = items_behind is channel

  -- ---- a block

  read_own : (r : Result (List MacItem) MacRefusal) → IsShown l bits kinds
      → told_in d l (block_place d p) (shown_by kinds r) ≡ written bits p (pdus_read l r)
  read_own (Ok is) h = items_own is None h
  read_own (Err fault) h = refl

  read_hidden : (r : Result (List MacItem) MacRefusal)
      → told_in (sent_by (other from)) l (block_place d p) (shown_by kinds r) ≡ []
  read_hidden (Ok is) = items_hidden is None
  read_hidden (Err fault) = refl

  read_behind : (r : Result (List MacItem) MacRefusal) → (place_behind (block_place d p) (shown_by kinds r)).process ≡ p
  read_behind (Ok is) = items_behind is None
  read_behind (Err fault) = refl

-- ---- the records of a block that is sent

abbrev pub sent_whats : ℕ → ℕ → Direction → Visit → ℕ → List ℕ → List Happening
sent_whats l bits d New t octets = BlockRenewed (t % 8) ∷ written bits (t % 8) (carried l d octets)
sent_whats l bits d (Resend rv) t octets = []
sent_whats l bits d Quiet t octets = []

pub sent_own : (v : Visit) (from : Side) (l bits t : ℕ) (kinds : List (Option Layout)) (octets : List ℕ) (c : Cursor)
    → IsShown l bits kinds → told_in (sent_by from) l c (sent v from t kinds octets)
    ≡ sent_whats l bits (sent_by from) v t octets
sent_own New Nb l bits t kinds octets c h =
    ap (λ (ws : List Happening). BlockRenewed (t % 8) ∷ ws)
    (read_own Nb l (t % 8) bits kinds (reading (sent_by Nb) octets) h)
sent_own New Ue l bits t kinds octets c h =
    ap (λ (ws : List Happening). BlockRenewed (t % 8) ∷ ws)
    (read_own Ue l (t % 8) bits kinds (reading (sent_by Ue) octets) h)
sent_own (Resend rv) from l bits t kinds octets c h = refl
sent_own Quiet from l bits t kinds octets c h = refl

pub sent_hidden : (v : Visit) (from : Side) (l t : ℕ) (kinds : List (Option Layout)) (octets : List ℕ) (c : Cursor)
    → told_in (sent_by (other from)) l c (sent v from t kinds octets) ≡ []
sent_hidden New Nb l t kinds octets c = read_hidden Nb l (t % 8) 0 kinds (reading (sent_by Nb) octets)
sent_hidden New Ue l t kinds octets c = read_hidden Ue l (t % 8) 0 kinds (reading (sent_by Ue) octets)
sent_hidden (Resend rv) from l t kinds octets c = refl
sent_hidden Quiet from l t kinds octets c = refl

-- they stand at its process then
abbrev pub IsSending : Visit → Type 0
IsSending New = Unit {0}
IsSending (Resend rv) = Unit {0}
IsSending Quiet = ⊥

pub sent_behind : (v : Visit) (from : Side) (t : ℕ) (kinds : List (Option Layout)) (octets : List ℕ) (c : Cursor)
    → IsSending v → (place_behind c (sent v from t kinds octets)).process ≡ t % 8
sent_behind New from t kinds octets c s = read_behind from 0 (t % 8) 0 kinds (reading (sent_by from) octets)
sent_behind (Resend rv) from t kinds octets c s = refl
sent_behind Quiet from t kinds octets c s = absurd s

-- ---- a block that comes, and what the end that hears it tells then

pub got_own : (from : Side) (l : ℕ) (c : Cursor) (heard : Option Bool) (es : List Event)
    → told_in (sent_by from) l c (records.Air (sent_by from) Got heard ∷ map (records.Of (other from)) es)
    ≡ BlockArrived c.process ∷ expiries l es
got_own Nb l c heard es = ap (λ (ws : List Happening). BlockArrived c.process ∷ ws) (events_own Nb l c es)
got_own Ue l c heard es = ap (λ (ws : List Happening). BlockArrived c.process ∷ ws) (events_own Ue l c es)

pub got_hidden : (from : Side) (l : ℕ) (c : Cursor) (heard : Option Bool) (es : List Event)
    → told_in (sent_by (other from)) l c (records.Air (sent_by from) Got heard ∷ map (records.Of (other from)) es)
    ≡ []
got_hidden Nb l c heard es = events_hidden Ue l c es
got_hidden Ue l c heard es = events_hidden Nb l c es

-- ---- the records of a visit

-- what records tell of the flows of a channel, wherever they stood before
abbrev pub Shows : ℕ → List (Option Layout) → List Record → Whats → Type 0
Shows l kinds told ws = (bits : ℕ) → IsShown l bits kinds → (from : Side) (c : Cursor)
    → told_in (sent_by from) l c told ≡ ws bits from

new_is : (v : Visit) (l bits : ℕ) (side : Side) (t : Turn) (octets : List ℕ) (e : End) → HasCome side e
    → visit t.tti t.order e ≡ v → octets ≡ block_at t.tti (built t.tti t.grant t.order e)
    → sent_whats l bits (sent_by side) v t.tti octets ≡ built_whats l bits (sent_by side) v t (visited t.tti t.order e)
new_is New l bits side t octets e come is same =
    ap (λ (o : List ℕ). BlockRenewed (t.tti % 8) ∷ written bits (t.tti % 8) (carried l (sent_by side) o))
    (same ∙ block_is t.tti t.grant t.order e (come_eight side e come) is)
new_is (Resend rv) l bits side t octets e come is same = refl
new_is Quiet l bits side t octets e come is same = refl

pub visit_shows : (v : Visit) (l : ℕ) (side : Side) (t : Turn) (kinds : List (Option Layout)) (octets : List ℕ)
    (e : End) → visit t.tti t.order e ≡ v → octets ≡ block_at t.tti (built t.tti t.grant t.order e) → HasCome side e
    → Shows l kinds (visit_records v side t.tti t.grant t.order kinds octets e) (call_whats side l e (Visits t))
visit_shows v l Nb t kinds octets e is same come bits s Nb c =
    let es = building t.tti t.grant t.order e in
    in_both (sent_by Nb) l c (map (records.Of Nb) es) (sent v Nb t.tti kinds octets) []
    (sent_whats l bits (sent_by Nb) v t.tti octets) (events_hidden Nb l c es)
    (sent_own v Nb l bits t.tti kinds octets (place_behind c (map (records.Of Nb) es)) s)
    ∙ new_is v l bits Nb t octets e come is same
    ∙ ap (λ (w : Visit). built_whats l bits (sent_by Nb) w t (visited t.tti t.order e)) (sym is)
visit_shows v l Nb t kinds octets e is same come bits s Ue c =
    let es = building t.tti t.grant t.order e in
    in_both (sent_by Ue) l c (map (records.Of Nb) es) (sent v Nb t.tti kinds octets) (expiries l es) []
    (events_own Ue l c es) (sent_hidden v Nb l t.tti kinds octets (place_behind c (map (records.Of Nb) es)))
    ∙ append-nil (expiries l es)
visit_shows v l Ue t kinds octets e is same come bits s Ue c =
    let es = building t.tti t.grant t.order e in
    in_both (sent_by Ue) l c (map (records.Of Ue) es) (sent v Ue t.tti kinds octets) []
    (sent_whats l bits (sent_by Ue) v t.tti octets) (events_hidden Ue l c es)
    (sent_own v Ue l bits t.tti kinds octets (place_behind c (map (records.Of Ue) es)) s)
    ∙ new_is v l bits Ue t octets e come is same
    ∙ ap (λ (w : Visit). built_whats l bits (sent_by Ue) w t (visited t.tti t.order e)) (sym is)
visit_shows v l Ue t kinds octets e is same come bits s Nb c =
    let es = building t.tti t.grant t.order e in
    in_both (sent_by Nb) l c (map (records.Of Ue) es) (sent v Ue t.tti kinds octets) (expiries l es) []
    (events_own Nb l c es) (sent_hidden v Ue l t.tti kinds octets (place_behind c (map (records.Of Ue) es)))
    ∙ append-nil (expiries l es)

-- without a block
pub quiet_shows : (l : ℕ) (side : Side) (t : Turn) (kinds : List (Option Layout)) (e : End)
    → visit t.tti t.order e ≡ Quiet
    → Shows l kinds (map (records.Of side) (building t.tti t.grant t.order e)) (call_whats side l e (Visits t))
quiet_shows l Nb t kinds e is bits s Nb c = events_hidden Nb l c (building t.tti t.grant t.order e)
    ∙ ap (λ (w : Visit). built_whats l bits (sent_by Nb) w t (visited t.tti t.order e)) (sym is)
quiet_shows l Nb t kinds e is bits s Ue c = events_own Ue l c (building t.tti t.grant t.order e)
quiet_shows l Ue t kinds e is bits s Ue c = events_hidden Ue l c (building t.tti t.grant t.order e)
    ∙ ap (λ (w : Visit). built_whats l bits (sent_by Ue) w t (visited t.tti t.order e)) (sym is)
quiet_shows l Ue t kinds e is bits s Nb c = events_own Nb l c (building t.tti t.grant t.order e)

-- the records stand at its process then
pub visit_behind : (v : Visit) (side : Side) (t : Turn) (kinds : List (Option Layout)) (octets : List ℕ) (e : End)
    (c : Cursor) → IsSending v → (place_behind c (visit_records v side t.tti t.grant t.order kinds octets e)).process
    ≡ t.tti % 8
visit_behind v side t kinds octets e c sends =
    let es = building t.tti t.grant t.order e in
    ap (λ (p : Cursor). p.process) (behind_then c (map (records.Of side) es) (sent v side t.tti kinds octets))
    ∙ sent_behind v side t.tti kinds octets (place_behind c (map (records.Of side) es)) sends
