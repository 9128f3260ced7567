-- What a turn of a sender and an arrival at a receiver make of the process of a TTI, and of the others.
use Rattle.std.proofs.Common.{◌≡◌, ◌<◌, ℕ, ◌%◌, Bool, true, false, not, ◌&&◌, ◌||◌, is_some, if◌then◌else◌, Option}
use Rattle.std.proofs.Common.{Some, None, option_map, List, [], ◌∷◌, length, get_or-set_same, get_or-set_other, refl}
use Rattle.std.proofs.Common.{ap}
use Rattle.std.proofs.Common.{◌∙◌, arith}
use Rattle.std.specs.Prelude.{slice_index_or}
use Rattle.std.proofs.Math.ListN.{length-set}
use Rattle.air_record.specs.declared.record.Arrived.{Arrived}
use Rattle.air_record.specs.declared.record.Record.TheVariants as records
use Rattle.harq.specs.declared.sender.Order.{Order}
use Rattle.harq.specs.declared.sender.Order.TheVariants.{Free, Grant}
use Rattle.harq.specs.declared.sender.Visit.{Visit}
use Rattle.harq.specs.declared.sender.Visit.TheVariants.{New, Resend, Silent as Nothing}
use Rattle.harq.specs.Receiving.{Receiving, blank, is_last, was_decoded, assigned_to, process_at, after_assigned}
use Rattle.harq.specs.SendHistory.{Turn, Deed, Waited, Built, Resent, closed, turned, deed_by, deed}
use Rattle.harq.specs.Sending.{Sending, SendProcess, Block, empty, loaded, fed, same, visited, resend_or}
use Rattle.harq.specs.Sending.{process_at as sending_at, after_visit, visit_answer, after_load, after_feedback, ndi_of}
use Rattle.harq.specs.Sending.{held_of}
use Rattle.mac_pdu.specs.declared.item.Direction.{Direction}
use Rattle.law_run.specs.AnyCalls.Deeds.{deed_of, turn}
use Rattle.law_run.proofs.AnyCalls.Sending.{still_eight}

-- ---- a turn of a sender

-- the feedback that a deed read
abbrev pub good_of : Deed → Bool
good_of Waited = false
good_of (Built octets good) = good
good_of (Resent version octets good) = good

pub good_told : (d way : Direction) (p version : ℕ) (fresh : Bool) (octets : List ℕ) (what : Arrived) (good : Bool)
    → good_of (deed_of (records.Block d p fresh version octets ∷ records.Air way what (Some good) ∷ [])) ≡ good
good_told d way p version true octets what good = refl
good_told d way p version false octets what good = refl

loaded_eight : (s : Sending) (t : ℕ) (octets : List ℕ) → length s.processes ≡ 8
    → length (after_load s t octets).processes ≡ 8
unfolding after_load
loaded_eight s t octets l = length-set s.processes (t % 8) _ ∙ l

fed_eight : (s : Sending) (t : ℕ) (good : Bool) → length s.processes ≡ 8
    → length (after_feedback s t good).processes ≡ 8
unfolding after_feedback
fed_eight s t good l = length-set s.processes (t % 8) _ ∙ l

closed_eight : (v : Visit) (t : Turn) (s : Sending) → length s.processes ≡ 8 → length (closed v t s).processes ≡ 8
closed_eight New t s l = fed_eight (after_load s t.tti t.octets) t.tti t.good (loaded_eight s t.tti t.octets l)
closed_eight (Resend version) t s l = fed_eight s t.tti t.good l
closed_eight Nothing t s l = l

pub turned_eight : (t : Turn) (s : Sending) → length s.processes ≡ 8 → length (turned t s).processes ≡ 8
turned_eight t s l =
    closed_eight (visit_answer s t.tti t.order) t (after_visit s t.tti t.order) (still_eight s t.tti t.order l)

-- a good feedback empties the process
fed_none : (s : Sending) (t : ℕ) (good : Bool) → length s.processes ≡ 8 → good ≡ true
    → held_of (after_feedback s t good) (t % 8) ≡ None
unfolding held_of after_feedback
fed_none s t good l e =
    let within : t % 8 < length s.processes = omega (arith, l) in
    let p = fed good (slice_index_or s.processes (t % 8) empty) in
    ap (λ (x : SendProcess). option_map (λ (b : Block). b.octets) x.held)
    (get_or-set_same s.processes (t % 8) p empty within)
    ∙ ap (λ (g : Bool). option_map (λ (b : Block). b.octets)
    (fed g (slice_index_or s.processes (t % 8) empty)).held) e

closed_none : (v : Visit) (t : Turn) (s : Sending) (held : Option (List ℕ)) → length s.processes ≡ 8
    → good_of (deed_by v t held) ≡ true → held_of (closed v t s) (t.tti % 8) ≡ None
closed_none New t s held l e =
    fed_none (after_load s t.tti t.octets) t.tti t.good (loaded_eight s t.tti t.octets l) e
closed_none (Resend version) t s held l e = fed_none s t.tti t.good l e
closed_none Nothing t s held l e = absurd cc

pub turned_none : (t : Turn) (s : Sending) → length s.processes ≡ 8 → good_of (deed t s) ≡ true
    → held_of (turned t s) (t.tti % 8) ≡ None
turned_none t s l e =
    closed_none (visit_answer s t.tti t.order) t (after_visit s t.tti t.order)
    (held_of (after_visit s t.tti t.order) (t.tti % 8)) (still_eight s t.tti t.order l) e

-- ---- the other processes of a sender

abbrev at : Sending → ℕ → SendProcess
at s p = slice_index_or s.processes p empty

visited_other : (s : Sending) (t p : ℕ) (order : Order) → (p ≡ t % 8 → ⊥) → at (after_visit s t order) p ≡ at s p
unfolding after_visit
visited_other s t p order ne = get_or-set_other s.processes (t % 8) p _ empty ne

loaded_other : (s : Sending) (t p : ℕ) (octets : List ℕ) → (p ≡ t % 8 → ⊥) → at (after_load s t octets) p ≡ at s p
unfolding after_load
loaded_other s t p octets ne = get_or-set_other s.processes (t % 8) p _ empty ne

fed_other : (s : Sending) (t p : ℕ) (good : Bool) → (p ≡ t % 8 → ⊥) → at (after_feedback s t good) p ≡ at s p
unfolding after_feedback
fed_other s t p good ne = get_or-set_other s.processes (t % 8) p _ empty ne

closed_other : (v : Visit) (t : Turn) (s : Sending) (p : ℕ) → (p ≡ t.tti % 8 → ⊥) → at (closed v t s) p ≡ at s p
closed_other New t s p ne =
    fed_other (after_load s t.tti t.octets) t.tti p t.good ne ∙ loaded_other s t.tti p t.octets ne
closed_other (Resend version) t s p ne = fed_other s t.tti p t.good ne
closed_other Nothing t s p ne = refl

turned_other : (t : Turn) (s : Sending) (p : ℕ) → (p ≡ t.tti % 8 → ⊥) → at (turned t s) p ≡ at s p
turned_other t s p ne =
    closed_other (visit_answer s t.tti t.order) t (after_visit s t.tti t.order) p ne
    ∙ visited_other s t.tti p t.order ne

pub other_held : (t : Turn) (s : Sending) (p : ℕ) → (p ≡ t.tti % 8 → ⊥) → held_of (turned t s) p ≡ held_of s p
unfolding held_of
other_held t s p ne = ap (λ (x : SendProcess). option_map (λ (b : Block). b.octets) x.held) (turned_other t s p ne)

pub other_ndi : (t : Turn) (s : Sending) (u : ℕ) → (u % 8 ≡ t.tti % 8 → ⊥) → ndi_of (turned t s) u ≡ ndi_of s u
unfolding ndi_of
other_ndi t s u ne = ap (λ (x : SendProcess). x.ndi) (turned_other t s (u % 8) ne)

-- ---- an empty process

none_in : (held : Option Block) → option_map (λ (b : Block). b.octets) held ≡ None → held ≡ None
none_in None e = refl
none_in (Some b) e = absurd cc

pub empty_at : (s : Sending) (t : ℕ) → held_of s (t % 8) ≡ None → (sending_at s t).held ≡ None
unfolding held_of
empty_at s t e = none_in (at s (t % 8)).held e

seen_none : (b : Bool) (held : Option Block) → held ≡ None → (if b then held else None) ≡ None
seen_none true held e = e
seen_none false held e = refl

pub new_free : (s : Sending) (t : ℕ) → held_of s (t % 8) ≡ None → visit_answer s t Free ≡ New
unfolding visit_answer
new_free s t e = ap (resend_or New) (empty_at s t e)

pub new_granted : (s : Sending) (t : ℕ) (ndi : Bool) → held_of s (t % 8) ≡ None → visit_answer s t (Grant ndi) ≡ New
unfolding visit_answer
new_granted s t ndi e =
    ap (resend_or New)
    (seen_none (same ndi (sending_at s t).ndi) (sending_at s t).held (empty_at s t e))

-- a new downlink block has the other NDI
toggles : (held : Option Block) (ndi : Bool) → held ≡ None → (if is_some held then ndi else not ndi) ≡ not ndi
toggles None ndi e = refl
toggles (Some b) ndi e = absurd cc

pub ndi_visited : (s : Sending) (t : ℕ) → length s.processes ≡ 8 → held_of s (t % 8) ≡ None
    → ndi_of (after_visit s t Free) t ≡ not (ndi_of s t)
unfolding ndi_of after_visit
ndi_visited s t l e =
    let within : t % 8 < length s.processes = omega (arith, l) in
    ap (λ (x : SendProcess). x.ndi) (get_or-set_same s.processes (t % 8) (visited Free (at s (t % 8))) empty within)
    ∙ toggles (at s (t % 8)).held (at s (t % 8)).ndi (empty_at s t e)

pub ndi_loaded : (s : Sending) (t : ℕ) (octets : List ℕ) → length s.processes ≡ 8
    → ndi_of (after_load s t octets) t ≡ ndi_of s t
unfolding ndi_of after_load
ndi_loaded s t octets l =
    let within : t % 8 < length s.processes = omega (arith, l) in
    ap (λ (x : SendProcess). x.ndi)
    (get_or-set_same s.processes (t % 8) (loaded s.maximum octets (at s (t % 8))) empty within)

ndi_fed : (s : Sending) (t : ℕ) (good : Bool) → length s.processes ≡ 8
    → ndi_of (after_feedback s t good) t ≡ ndi_of s t
unfolding ndi_of after_feedback
ndi_fed s t good l =
    let within : t % 8 < length s.processes = omega (arith, l) in
    ap (λ (x : SendProcess). x.ndi) (get_or-set_same s.processes (t % 8) (fed good (at s (t % 8))) empty within)

pub ndi_new : (t : ℕ) (octets : List ℕ) (good : Bool) (s : Sending) → length s.processes ≡ 8
    → held_of s (t % 8) ≡ None → ndi_of (turned (turn t Free octets good) s) t ≡ not (ndi_of s t)
ndi_new t octets good s l e =
    let seen' = after_visit s t Free in
    let eight = still_eight s t Free l in
    ap (λ (v : Visit). ndi_of (closed v (turn t Free octets good) seen') t) (new_free s t e)
    ∙ (ndi_fed (after_load seen' t octets) t good (loaded_eight seen' t octets eight)
    ∙ (ndi_loaded seen' t octets eight ∙ ndi_visited s t l e))

-- ---- an arrival at the terminal

pub assigned_eight : (r : Receiving) (t : ℕ) (ndi good : Bool) → length r.processes ≡ 8
    → length (after_assigned r t ndi good).processes ≡ 8
unfolding after_assigned
assigned_eight r t ndi good l = length-set r.processes (t % 8) _ ∙ l

same_self : (ndi : Bool) → same ndi ndi ≡ true
same_self true = refl
same_self false = refl

decodes : (b ndi : Bool) → (same ndi ndi && (b || true)) ≡ true
decodes true true = refl
decodes true false = refl
decodes false true = refl
decodes false false = refl

pub decoded_here : (r : Receiving) (t : ℕ) (ndi : Bool) → length r.processes ≡ 8
    → was_decoded ndi (process_at (after_assigned r t ndi true) t) ≡ true
unfolding after_assigned
decoded_here r t ndi l =
    let within : t % 8 < length r.processes = omega (arith, l) in
    let p = slice_index_or r.processes (t % 8) blank in
    ap (was_decoded ndi) (get_or-set_same r.processes (t % 8) (assigned_to ndi true p) blank within)
    ∙ decodes (was_decoded ndi p) ndi

pub decoded_other : (r : Receiving) (t u : ℕ) (ndi good : Bool) → (u % 8 ≡ t % 8 → ⊥)
    → process_at (after_assigned r t ndi good) u ≡ process_at r u
unfolding after_assigned
decoded_other r t u ndi good ne = get_or-set_other r.processes (t % 8) (u % 8) _ blank ne

-- of the other NDI none was decoded
other_last : (ndi : Bool) (seen' : Option Bool) → is_last ndi seen' ≡ true → is_last (not ndi) seen' ≡ false
other_last ndi None e = absurd cc
other_last true (Some true) e = refl
other_last true (Some false) e = absurd cc
other_last false (Some true) e = absurd cc
other_last false (Some false) e = refl

left_of : (a b : Bool) → (a && b) ≡ true → a ≡ true
left_of true b e = refl
left_of false b e = absurd cc

undecoded : (ndi decoded : Bool) (seen' : Option Bool) → (is_last ndi seen' && decoded) ≡ true
    → (is_last (not ndi) seen' && decoded) ≡ false
undecoded ndi decoded seen' e =
    ap (λ (b : Bool). b && decoded) (other_last ndi seen' (left_of (is_last ndi seen') decoded e))

pub none_decoded : (r : Receiving) (t : ℕ) (ndi : Bool) → was_decoded ndi (process_at r t) ≡ true
    → was_decoded (not ndi) (process_at r t) ≡ false
none_decoded r t ndi e = undecoded ndi (process_at r t).decoded (process_at r t).seen e
