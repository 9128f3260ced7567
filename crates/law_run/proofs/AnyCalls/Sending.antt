-- What the blocks of a TTI are to the HARQ processes of both ends.
use Rattle.std.proofs.Common.{subst, Some, ◌≡◌, ◌<◌, ◌≤◌, ℕ, ◌%◌, ◌==◌, Bool, true, false, if◌then◌else◌, None, List}
use Rattle.std.proofs.Common.{[], ◌∷◌, length, get_or-set_same, refl, ap, sym, arith, ◌∙◌}
use Rattle.std.specs.Prelude.{slice_index_or, slice_set, unwrap_or}
use Rattle.std.proofs.Math.ListN.{length-set}
use Rattle.air_record.specs.declared.line.Fate.{Fate}
use Rattle.air_record.specs.declared.line.Fate.TheVariants.{Ok, Bad, Miss}
use Rattle.air_record.specs.declared.line.Outcome.{Outcome}
use Rattle.air_record.specs.declared.record.Arrived.TheVariants as arriveds
use Rattle.air_record.specs.declared.record.Record.{Record}
use Rattle.air_record.specs.declared.record.Record.TheVariants as records
use Rattle.harq.specs.declared.receiver.Answer.{Answer}
use Rattle.harq.specs.declared.receiver.Answer.TheVariants.{Up, Again, Damaged, Nothing}
use Rattle.harq.specs.declared.sender.Order.{Order}
use Rattle.harq.specs.declared.sender.Order.TheVariants as orders
use Rattle.harq.specs.declared.sender.Visit.{Visit}
use Rattle.harq.specs.declared.sender.Visit.TheVariants.{New, Resend, Silent as Quiet}
use Rattle.harq.specs.Receiving.{Receiving, process_at as received_at, was_decoded, after_assigned, assigned_answer}
use Rattle.harq.specs.Receiving.{grant_ndi, after_grant, after_granted, after_pass}
use Rattle.harq.specs.Sending.{Sending, SendProcess, visit_answer, after_visit, after_load, after_feedback, held_of}
use Rattle.harq.specs.Sending.{ndi_of, fed, loaded, empty}
use Rattle.harq.specs.SendHistory.{Deed, Waited, Built, Resent, closed, deed_by}
use Rattle.l2_node.specs.Building.{visit, visited, built, built_by, building, loaded as block_loaded}
use Rattle.l2_node.specs.End.{End}
use Rattle.l2_node.specs.Writing.{new_block}
use Rattle.l2_types.specs.declared.side.Side.{Side}
use Rattle.l2_types.specs.declared.side.Side.TheVariants.{Nb, Ue}
use Rattle.air_link.specs.Link.{Link, with_end}
use Rattle.air_link.specs.Downlink.{builds, built_ndi, block_at, sends, told_as, is_good, saw_new, sees, answer, comes}
use Rattle.air_link.specs.Downlink.{hears_by, lands, unseen, down_order, down_by, downlink}
use Rattle.air_record.specs.Outcomes.{turned}
use Rattle.air_link.specs.Uplink.{up_order, is_intact, told_as as up_told_as, hears_if, aired as up_aired, awake, up_by}
use Rattle.air_link.specs.Uplink.{grants, passes, uplink}
use Rattle.mac_pdu.specs.declared.item.Direction.TheVariants as directions
use Rattle.law_run.specs.AnyCalls.Deeds.{deed_of, turn, TakesTurn, came_of, Answers, heard_up, up_ordered, Entity}
use Rattle.law_run.specs.AnyCalls.Deeds.{entity, Entities, entities}
use Rattle.law_run.proofs.AnyCalls.Flying.{downlink_adds, down_by_adds, uplink_adds, up_by_adds, grants_adds}
use Rattle.law_run.proofs.AnyCalls.Flying.{passes_adds, uplink_if, new_down, resent_down, downs_then, ups_then}
use Rattle.law_run.proofs.AnyCalls.Flying.{down_quiet, down_loud, up_missed}
use Rattle.law_run.proofs.AnyCalls.Telling.{none_from, some_from}
use Rattle.law_run.proofs.AnyCalls.Going.{told_rests, hears_rests}

-- ---- a turn

abbrev loads : Visit → ℕ → List ℕ → Sending → Sending
loads New t octets s = after_load s t octets
loads (Resend rv) t octets s = s
loads Quiet t octets s = s

abbrev feeds_by : Visit → ℕ → Bool → Sending → Sending
feeds_by New t good s = after_feedback s t good
feeds_by (Resend rv) t good s = after_feedback s t good
feeds_by Quiet t good s = s

abbrev deed_told : Visit → List ℕ → Bool → Deed
deed_told New octets good = Built octets good
deed_told (Resend rv) octets good = Resent rv octets good
deed_told Quiet octets good = Waited

abbrev held_in : Sending → ℕ → List ℕ
held_in s t = unwrap_or (held_of s (t % 8)) []

pub still_eight : (s : Sending) (t : ℕ) (order : Order) → length s.processes ≡ 8
    → length (after_visit s t order).processes ≡ 8
unfolding after_visit
still_eight s t order e = length-set s.processes (t % 8) _ ∙ e

pub holds_loaded : (s : Sending) (t : ℕ) (octets : List ℕ) → length s.processes ≡ 8
    → held_in (after_load s t octets) t ≡ octets
unfolding held_of after_load
holds_loaded s t octets e =
    let within : t % 8 < length s.processes = omega (arith, e) in
    rw (get_or-set_same s.processes (t % 8) (loaded s.maximum octets (slice_index_or s.processes (t % 8) empty)) empty
    within) refl

takes : (v : Visit) (t : ℕ) (order : Order) (s r q : Sending) (octets : List ℕ) (good : Bool) (told : List Record)
    → visit_answer s t order ≡ v → r ≡ loads v t octets (after_visit s t order) → q ≡ feeds_by v t good r
    → deed_of told ≡ deed_told v (held_in r t) good → TakesTurn t order s q told
takes New t order s r q octets good told e built' fed is = record {
  octets = octets;
  good = good;
  sender_is = fed ∙ ap (λ (x : Sending). after_feedback x t good) built'
      ∙ sym (ap (λ (w : Visit). closed w (turn t order octets good) (after_visit s t order)) e);
  deed_is = λ eight.
      let held : held_in r t ≡ octets = ap (λ (x : Sending). held_in x t) built'
      ∙ holds_loaded (after_visit s t order) t octets (still_eight s t order eight) in
      ap (λ (w : Visit). deed_by w (turn t order octets good) (held_of (after_visit s t order) (t % 8))) e
      ∙ sym (ap (λ (x : List ℕ). Built x good) held) ∙ sym is;
}
takes (Resend rv) t order s r q octets good told e built' fed is = record {
  octets = octets;
  good = good;
  sender_is = fed ∙ ap (λ (x : Sending). after_feedback x t good) built'
      ∙ sym (ap (λ (w : Visit). closed w (turn t order octets good) (after_visit s t order)) e);
  deed_is =
      λ eight. ap (λ (w : Visit). deed_by w (turn t order octets good) (held_of (after_visit s t order) (t % 8))) e
      ∙ sym (ap (λ (x : Sending). Resent rv (held_in x t) good) built') ∙ sym is;
}
takes Quiet t order s r q octets good told e built' fed is = record {
  octets = octets;
  good = good;
  sender_is = fed ∙ built' ∙ sym (ap (λ (w : Visit). closed w (turn t order octets good) (after_visit s t order)) e);
  deed_is =
      λ eight. ap (λ (w : Visit). deed_by w (turn t order octets good) (held_of (after_visit s t order) (t % 8))) e
      ∙ sym is;
}

-- what is built
built_by_sender : (v : Visit) (t grant : ℕ) (e : End)
    → (built_by v t grant e).sender ≡ loads v t (new_block e grant) e.sender
unfolding block_loaded
built_by_sender New t grant e = refl
built_by_sender (Resend rv) t grant e = refl
built_by_sender Quiet t grant e = refl

built_sender : (v : Visit) (t grant : ℕ) (order : Order) (e : End) → visit t order e ≡ v
    → (built t grant order e).sender ≡ loads v t (new_block (visited t order e) grant) (after_visit e.sender t order)
unfolding built visited
built_sender v t grant order e is =
    ap (λ (w : Visit). (built_by w t grant (record e { sender = after_visit e.sender t order })).sender) is
    ∙ built_by_sender v t grant (record e { sender = after_visit e.sender t order })

built_by_receiver : (v : Visit) (t grant : ℕ) (e : End) → (built_by v t grant e).receiver ≡ e.receiver
unfolding block_loaded
built_by_receiver New t grant e = refl
built_by_receiver (Resend rv) t grant e = refl
built_by_receiver Quiet t grant e = refl

built_receiver : (t grant : ℕ) (order : Order) (e : End) → (built t grant order e).receiver ≡ e.receiver
unfolding built visited
built_receiver t grant order e =
    built_by_receiver (visit t order e) t grant (record e { sender = after_visit e.sender t order })

built_entity : (t grant : ℕ) (order : Order) (e : End)
    → entity (built t grant order e) ≡ record { sender = (built t grant order e).sender; receiver = e.receiver }
built_entity t grant order e = rw (built_receiver t grant order e) refl

-- the processes behind a visit
abbrev built_nb : ℕ → ℕ → Order → Link → Entities
built_nb t grant order l =
    record { nb = record { sender = (built t grant order l.nb).sender; receiver = l.nb.receiver }; ue = entity l.ue }

abbrev built_ue : ℕ → ℕ → Order → Link → Entities
built_ue t grant order l =
    record { nb = entity l.nb; ue = record { sender = (built t grant order l.ue).sender; receiver = l.ue.receiver } }

builds_nb : (t grant : ℕ) (order : Order) (l : Link) → entities (builds Nb t grant order l) ≡ built_nb t grant order l
builds_nb t grant order l =
    told_rests Nb (building t grant order l.nb) (with_end Nb (built t grant order l.nb) l)
    ∙ ap (λ (e : Entity). record { nb = e; ue = entity l.ue }) (built_entity t grant order l.nb)

builds_ue : (t grant : ℕ) (order : Order) (l : Link) → entities (builds Ue t grant order l) ≡ built_ue t grant order l
builds_ue t grant order l =
    told_rests Ue (building t grant order l.ue) (with_end Ue (built t grant order l.ue) l)
    ∙ ap (λ (e : Entity). record { nb = entity l.nb; ue = e }) (built_entity t grant order l.ue)

sends_rests : (v : Visit) (side : Side) (t : ℕ) (octets : List ℕ) (l : Link)
    → entities (sends v side t octets l) ≡ entities l
sends_rests New side t octets l = refl
sends_rests (Resend rv) side t octets l = refl
sends_rests Quiet side t octets l = refl

-- ---- the downlink

unseen_rests : (v : Visit) (t : ℕ) (l : Link) → entities (unseen v t l) ≡ entities l
unseen_rests New t l = refl
unseen_rests (Resend rv) t l = refl
unseen_rests Quiet t l = refl

first_rests : (b : Bool) (t : ℕ) (l : Link)
    → entities (if b then l else saw_new t (record l { seen = slice_set l.seen (t % 8) true })) ≡ entities l
first_rests true t l = refl
first_rests false t l = refl

sees_rests : (t : ℕ) (good : Bool) (l : Link) → entities (sees t good l) ≡ entities l
sees_rests t true l = first_rests (slice_index_or l.seen (t % 8) false) t l
sees_rests t false l = first_rests (slice_index_or l.seen (t % 8) false) t l

-- what the terminal's receiver makes of a block
abbrev heard_as : Fate → ℕ → Bool → Receiving → Receiving
heard_as Miss t ndi r = r
heard_as Ok t ndi r = after_assigned r t ndi true
heard_as Bad t ndi r = after_assigned r t ndi false

abbrev heard_down : Fate → ℕ → Bool → Entities → Entities
heard_down f t ndi e =
    record { nb = e.nb; ue = record { sender = e.ue.sender; receiver = heard_as f t ndi e.ue.receiver } }

comes_to : (f : Fate) (t : ℕ) (ndi : Bool) (l : Link) → entities (comes f t ndi l) ≡ heard_down f t ndi (entities l)
comes_to Miss t ndi l = refl
comes_to Ok t ndi l =
    sees_rests t true (record l { ue = record l.ue { receiver = after_assigned l.ue.receiver t ndi true } })
comes_to Bad t ndi l =
    sees_rests t false (record l { ue = record l.ue { receiver = after_assigned l.ue.receiver t ndi false } })

hears_by_rests : (a : Answer) (octets : List ℕ) (l : Link) → entities (hears_by a octets l) ≡ entities l
hears_by_rests Up octets l = (hears_rests Ue octets l).entities_are
hears_by_rests Again octets l = refl
hears_by_rests Damaged octets l = refl
hears_by_rests Nothing octets l = refl

abbrev fed_nb : ℕ → Bool → Entities → Entities
fed_nb t good e = record {
  nb = record { sender = after_feedback e.nb.sender t good; receiver = e.nb.receiver };
  ue = e.ue;
}

-- a block on its way, and what the sender reads
abbrev sent_down : Visit → ℕ → Link → Link
sent_down v t l = sends v Nb t (block_at t l.nb) (unseen v t l)

sent_rests : (v : Visit) (t : ℕ) (l : Link) → entities (sent_down v t l) ≡ entities l
sent_rests v t l = sends_rests v Nb t (block_at t l.nb) (unseen v t l) ∙ unseen_rests v t l

abbrev down_good : Visit → ℕ → Outcome → Bool → Link → Bool
down_good v t o ndi l = turned o.flipped (is_good (answer o.fate t ndi (sent_down v t l)))

down_entities : (v : Visit) (t : ℕ) (o : Outcome) (ndi : Bool) (l : Link)
    → entities (lands t o ndi (block_at t l.nb) (sent_down v t l))
    ≡ fed_nb t (down_good v t o ndi l) (heard_down o.fate t ndi (entities l))
down_entities v t o ndi l =
    let n = sent_down v t l in
    let a = answer o.fate t ndi n in
    let good = turned o.flipped (is_good a) in
    hears_by_rests a (block_at t l.nb) _
    ∙ ap (fed_nb t good) (comes_to o.fate t ndi n ∙ ap (heard_down o.fate t ndi) (sent_rests v t l))

-- an intact block is new or known
answers_intact : (known : Bool) (t : ℕ) (ndi : Bool) (r q : Receiving) → was_decoded ndi (received_at r t) ≡ known
    → q ≡ after_assigned r t ndi true → Answers t ndi (Some (told_as (if known then Again else Up))) r q
unfolding assigned_answer
answers_intact true t ndi r q e is = record { receiver_is = is; answer_is = rw e refl }
answers_intact false t ndi r q e is = record { receiver_is = is; answer_is = rw e refl }

answers_as : (f : Fate) (t : ℕ) (ndi : Bool) (n : Link) (r q : Receiving) → n.ue.receiver ≡ r → q ≡ heard_as f t ndi r
    → Answers t ndi (Some (told_as (answer f t ndi n))) r q
unfolding assigned_answer
answers_as Miss t ndi n r q same is = is
answers_as Bad t ndi n r q same is = record { receiver_is = is; answer_is = refl }
answers_as Ok t ndi n r q same is =
    subst (λ (x : Receiving). Answers t ndi (Some (told_as (if was_decoded ndi (received_at x t) then Again else Up)))
    r q) (sym same) (answers_intact (was_decoded ndi (received_at r t)) t ndi r q refl is)

-- feedback leaves the NDI
ndi_fed : (s : Sending) (t : ℕ) (good : Bool) → length s.processes ≡ 8 → ndi_of (after_feedback s t good) t ≡ ndi_of s t
unfolding ndi_of after_feedback
ndi_fed s t good e =
    let within : t % 8 < length s.processes = omega (arith, e) in
    ap (λ (p : SendProcess). p.ndi)
    (get_or-set_same s.processes (t % 8) (fed good (slice_index_or s.processes (t % 8) empty)) empty within)

loads_eight : (v : Visit) (t : ℕ) (octets : List ℕ) (s : Sending) → length s.processes ≡ 8
    → length (loads v t octets s).processes ≡ 8
unfolding after_load
loads_eight New t octets s e = length-set s.processes (t % 8) _ ∙ e
loads_eight (Resend rv) t octets s e = e
loads_eight Quiet t octets s e = e

built_eight : (v : Visit) (t grant : ℕ) (order : Order) (e : End) → visit t order e ≡ v
    → length e.sender.processes ≡ 8 → length (built t grant order e).sender.processes ≡ 8
built_eight v t grant order e is eight =
    ap (λ (s : Sending). length s.processes) (built_sender v t grant order e is)
    ∙ loads_eight v t (new_block (visited t order e) grant) (after_visit e.sender t order)
    (still_eight e.sender t order eight)

-- both ends in the downlink of a TTI
pub record TurnsDown (t : ℕ) (order : Order) (l m : Link) (told : List Record) : Type 0 where
  pub nb_turn : TakesTurn t order l.nb.sender m.nb.sender told
  pub ue_answer : length l.nb.sender.processes ≡ 8
      → Answers t (ndi_of m.nb.sender t) (came_of told) l.ue.receiver m.ue.receiver
  pub nb_rests : m.nb.receiver ≡ l.nb.receiver
  pub ue_rests : m.ue.sender ≡ l.ue.sender

-- the terminal's answer, with the NDI of the process that built
answers_down : (v : Visit) (t grant : ℕ) (order : Order) (o : Outcome) (l m q : Link) → visit t order l.nb ≡ v
    → entities m ≡ built_nb t grant order l
    → entities q ≡ fed_nb t (down_good v t o (built_ndi Nb t grant order l) m)
    (heard_down o.fate t (built_ndi Nb t grant order l) (entities m)) → length l.nb.sender.processes ≡ 8
    → Answers t (ndi_of q.nb.sender t)
    (Some (told_as (answer o.fate t (built_ndi Nb t grant order l) (sent_down v t m)))) l.ue.receiver q.ue.receiver
answers_down v t grant order o l m q is b all eight =
    let ndi = built_ndi Nb t grant order l in
    let before : m.ue.receiver ≡ l.ue.receiver = ap (λ (e : Entities). e.ue.receiver) b in
    let good = down_good v t o ndi m in
    let s = (built t grant order l.nb).sender in
    let sender : q.nb.sender ≡ after_feedback s t good =
    ap (λ (e : Entities). e.nb.sender) all ∙ ap (λ (e : Entities). after_feedback e.nb.sender t good) b in
    let same : ndi ≡ ndi_of q.nb.sender t =
    sym (ap (λ (x : Sending). ndi_of x t) sender ∙ ndi_fed s t good (built_eight v t grant order l.nb is eight))
    in
    subst (λ (x : Bool). Answers t x (Some (told_as (answer o.fate t ndi (sent_down v t m)))) l.ue.receiver
    q.ue.receiver) same
    (answers_as o.fate t ndi (sent_down v t m) l.ue.receiver q.ue.receiver
    (ap (λ (e : Entities). e.ue.receiver) (sent_rests v t m) ∙ before)
    (ap (λ (e : Entities). e.ue.receiver) all ∙ ap (heard_as o.fate t ndi) before))

turns_down : (v : Visit) (t grant : ℕ) (order : Order) (o : Outcome) (l m : Link) (q : grant ≡ 0
    → v ≡ Quiet) (ld : 1 ≤ grant → v ≡ Quiet → ⊥) → visit t order l.nb ≡ v → entities m ≡ built_nb t grant order l
    → TurnsDown t order l (down_by v t o (built_ndi Nb t grant order l) m)
    (down_by_adds v t grant o (built_ndi Nb t grant order l) m q ld).flown
unfolding down_by_adds new_down resent_down
turns_down New t grant order o l m q ld is b =
    let ndi = built_ndi Nb t grant order l in
    let all = down_entities New t o ndi m in
    let built' = ap (λ (e : Entities). e.nb.sender) b ∙ built_sender New t grant order l.nb is in
    record {
      nb_turn = takes New t order l.nb.sender m.nb.sender (down_by New t o ndi m).nb.sender
          (new_block (visited t order l.nb) grant) (down_good New t o ndi m)
          (down_by_adds New t grant o ndi m q ld).flown is built'
          (ap (λ (e : Entities). e.nb.sender) all) refl;
      ue_answer = answers_down New t grant order o l m (down_by New t o ndi m) is b all;
      nb_rests = ap (λ (e : Entities). e.nb.receiver) all ∙ ap (λ (e : Entities). e.nb.receiver) b;
      ue_rests = ap (λ (e : Entities). e.ue.sender) all ∙ ap (λ (e : Entities). e.ue.sender) b;
    }
turns_down (Resend rv) t grant order o l m q ld is b =
    let ndi = built_ndi Nb t grant order l in
    let all = down_entities (Resend rv) t o ndi m in
    let built' = ap (λ (e : Entities). e.nb.sender) b ∙ built_sender (Resend rv) t grant order l.nb is in
    record {
      nb_turn = takes (Resend rv) t order l.nb.sender m.nb.sender (down_by (Resend rv) t o ndi m).nb.sender []
          (down_good (Resend rv) t o ndi m) (down_by_adds (Resend rv) t grant o ndi m q ld).flown is built'
          (ap (λ (e : Entities). e.nb.sender) all) refl;
      ue_answer = answers_down (Resend rv) t grant order o l m (down_by (Resend rv) t o ndi m) is b all;
      nb_rests = ap (λ (e : Entities). e.nb.receiver) all ∙ ap (λ (e : Entities). e.nb.receiver) b;
      ue_rests = ap (λ (e : Entities). e.ue.sender) all ∙ ap (λ (e : Entities). e.ue.sender) b;
    }
turns_down Quiet t grant order o l m q ld is b =
    let built' = ap (λ (e : Entities). e.nb.sender) b ∙ built_sender Quiet t grant order l.nb is in
    record {
      nb_turn = takes Quiet t order l.nb.sender m.nb.sender m.nb.sender [] true [] is built' refl refl;
      ue_answer = λ eight. ap (λ (e : Entities). e.ue.receiver) b;
      nb_rests = ap (λ (e : Entities). e.nb.receiver) b;
      ue_rests = ap (λ (e : Entities). e.ue.sender) b;
    }

pub downlink_turn : (t grant : ℕ) (o : Outcome) (l : Link)
    → TurnsDown t (down_order grant) l (downlink t grant o l) (downlink_adds t grant o l).flown
unfolding downlink downlink_adds downs_then
downlink_turn t grant o l =
    let order = down_order grant in
    turns_down (visit t order l.nb) t grant order o l (builds Nb t grant order l) (down_quiet t grant l.nb)
    (down_loud t grant l.nb) refl (builds_nb t grant order l)

-- ---- the uplink

awake_rests : (v : Visit) (t : ℕ) (l : Link) → entities (awake v t l) ≡ entities l
awake_rests New t l = refl
awake_rests (Resend rv) t l = refl
awake_rests Quiet t l = refl

hears_if_rests : (good : Bool) (octets : List ℕ) (l : Link) → entities (hears_if good octets l) ≡ entities l
hears_if_rests true octets l = (hears_rests Nb octets l).entities_are
hears_if_rests false octets l = refl

-- what came, and what the sender reads
abbrev fed_ue : ℕ → Bool → Bool → Entities → Entities
fed_ue t came good e =
    record {
      nb = record { sender = e.nb.sender; receiver = after_granted e.nb.receiver t (Some came) };
      ue = record { sender = after_feedback e.ue.sender t good; receiver = e.ue.receiver };
    }

abbrev up_good : Outcome → Bool
up_good o = turned o.flipped (is_intact o.fate)

up_entities : (v : Visit) (t : ℕ) (o : Outcome) (l : Link)
    → entities (up_aired t o.flipped (is_intact o.fate) (block_at t l.ue)
    (sends v Ue t (block_at t l.ue) (awake v t l))) ≡ fed_ue t (is_intact o.fate) (up_good o) (entities l)
up_entities v t o l =
    let octets = block_at t l.ue in
    let n = sends v Ue t octets (awake v t l) in
    hears_if_rests (is_intact o.fate) octets _
    ∙ ap (fed_ue t (is_intact o.fate) (up_good o)) (sends_rests v Ue t octets (awake v t l) ∙ awake_rests v t l)

-- both ends in the uplink of a TTI
pub record TurnsUp (t : ℕ) (order : Order) (l m : Link) (told : List Record) : Type 0 where
  pub ue_turn : TakesTurn t order l.ue.sender m.ue.sender told
  pub nb_heard : m.nb.receiver ≡ heard_up t (came_of told) l.nb.receiver
  pub nb_rests : m.nb.sender ≡ l.nb.sender
  pub ue_rests : m.ue.receiver ≡ l.ue.receiver

-- what is told is what a grant brought
hears_grant : (good : Bool) (t : ℕ) (r q g : Receiving) → r ≡ after_grant g t → q ≡ after_granted r t (Some good)
    → q ≡ heard_up t (Some (up_told_as good)) g
hears_grant true t r q g granted' is = is ∙ ap (λ (x : Receiving). after_granted x t (Some true)) granted'
hears_grant false t r q g granted' is = is ∙ ap (λ (x : Receiving). after_granted x t (Some false)) granted'

-- from the link of which the base station has granted
turns_up : (v : Visit) (t grant : ℕ) (order : Order) (o : Outcome) (g m : Link) (some : 1 ≤ grant) (quiet : v ≡ Quiet
    → o.fate ≡ Miss) → visit t order g.ue ≡ v
    → entities m ≡ built_ue t grant order (record g { nb = record g.nb { receiver = after_grant g.nb.receiver t } })
    → TurnsUp t order g (up_by v t o m) (up_by_adds v t grant o m some quiet).flown
unfolding up_by_adds
turns_up New t grant order o g m some quiet is b =
    let all = up_entities New t o m in
    let built' = ap (λ (e : Entities). e.ue.sender) b ∙ built_sender New t grant order g.ue is in
    record {
      ue_turn = takes New t order g.ue.sender m.ue.sender (up_by New t o m).ue.sender
          (new_block (visited t order g.ue) grant) (up_good o) (up_by_adds New t grant o m some quiet).flown is built'
          (ap (λ (e : Entities). e.ue.sender) all) refl;
      nb_heard = hears_grant (is_intact o.fate) t m.nb.receiver (up_by New t o m).nb.receiver g.nb.receiver
          (ap (λ (e : Entities). e.nb.receiver) b) (ap (λ (e : Entities). e.nb.receiver) all);
      nb_rests = ap (λ (e : Entities). e.nb.sender) all ∙ ap (λ (e : Entities). e.nb.sender) b;
      ue_rests = ap (λ (e : Entities). e.ue.receiver) all ∙ ap (λ (e : Entities). e.ue.receiver) b;
    }
turns_up (Resend rv) t grant order o g m some quiet is b =
    let all = up_entities (Resend rv) t o m in
    let built' = ap (λ (e : Entities). e.ue.sender) b ∙ built_sender (Resend rv) t grant order g.ue is in
    record {
      ue_turn = takes (Resend rv) t order g.ue.sender m.ue.sender (up_by (Resend rv) t o m).ue.sender [] (up_good o)
          (up_by_adds (Resend rv) t grant o m some quiet).flown is built'
          (ap (λ (e : Entities). e.ue.sender) all) refl;
      nb_heard = hears_grant (is_intact o.fate) t m.nb.receiver (up_by (Resend rv) t o m).nb.receiver g.nb.receiver
          (ap (λ (e : Entities). e.nb.receiver) b) (ap (λ (e : Entities). e.nb.receiver) all);
      nb_rests = ap (λ (e : Entities). e.nb.sender) all ∙ ap (λ (e : Entities). e.nb.sender) b;
      ue_rests = ap (λ (e : Entities). e.ue.receiver) all ∙ ap (λ (e : Entities). e.ue.receiver) b;
    }
turns_up Quiet t grant order o g m some quiet is b =
    let built' = ap (λ (e : Entities). e.ue.sender) b ∙ built_sender Quiet t grant order g.ue is in
    record {
      ue_turn = takes Quiet t order g.ue.sender m.ue.sender m.ue.sender [] true
          (records.Air directions.Up arriveds.Nothing None ∷ []) is built' refl refl;
      nb_heard = ap (λ (e : Entities). after_granted e.nb.receiver t None) b;
      nb_rests = ap (λ (e : Entities). e.nb.sender) b;
      ue_rests = ap (λ (e : Entities). e.ue.receiver) b;
    }

grants_turn : (t grant : ℕ) (o : Outcome) (l : Link) (some : 1 ≤ grant)
    → TurnsUp t (up_order o.fate (grant_ndi l.nb.receiver t)) l (grants t grant o l)
    (grants_adds t grant o l some).flown
unfolding grants_adds ups_then
grants_turn t grant o l some =
    let order = up_order o.fate (grant_ndi l.nb.receiver t) in
    let m : Link = record l { nb = record l.nb { receiver = after_grant l.nb.receiver t } } in
    turns_up (visit t order l.ue) t grant order o l (builds Ue t grant order m) some
    (up_missed t o.fate (grant_ndi l.nb.receiver t) l.ue) refl (builds_ue t grant order m)

passes_turn : (t grant : ℕ) (o : Outcome) (l : Link) (nothing : grant ≡ 0)
    → TurnsUp t orders.Silent l (passes t l) (passes_adds t grant o l nothing).flown
unfolding visit_answer passes_adds
passes_turn t grant o l nothing =
    let b = builds_ue t 0 orders.Silent l in
    let m = builds Ue t 0 orders.Silent l in
    record {
      ue_turn = takes Quiet t orders.Silent l.ue.sender m.ue.sender m.ue.sender [] true [] refl
          (ap (λ (e : Entities). e.ue.sender) b ∙ built_sender Quiet t 0 orders.Silent l.ue refl) refl refl;
      nb_heard = ap (λ (e : Entities). after_pass e.nb.receiver t) b;
      nb_rests = ap (λ (e : Entities). e.nb.sender) b;
      ue_rests = ap (λ (e : Entities). e.ue.receiver) b;
    }

turn_if : (b : Bool) (t grant : ℕ) (o : Outcome) (l : Link) (e : (grant == 0) ≡ b)
    → TurnsUp t (if b then orders.Silent else up_order o.fate (grant_ndi l.nb.receiver t)) l
    (if b then passes t l else grants t grant o l) (uplink_if b t grant o l e).flown
unfolding uplink_if
turn_if true t grant o l e = passes_turn t grant o l (none_from grant e)
turn_if false t grant o l e = grants_turn t grant o l (some_from grant e)

pub uplink_turn : (t grant : ℕ) (o : Outcome) (l : Link)
    → TurnsUp t (up_ordered grant o (grant_ndi l.nb.receiver t)) l (uplink t grant o l)
    (uplink_adds t grant o l).flown
unfolding uplink uplink_adds
uplink_turn t grant o l = turn_if (grant == 0) t grant o l refl
