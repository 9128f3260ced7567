-- What a block adds that flies, and its way to the other end.
use Rattle.std.proofs.Common.{◌≡◌, ◌≤◌, ℕ, ◌%◌, ◌==◌, ◌⊎◌, Bool, true, false, cond, if◌then◌else◌, Option, Some, None}
use Rattle.std.proofs.Common.{List, [], ◌∷◌, ◌++◌, refl, ap, subst, arith, inl, inr}
use Rattle.std.specs.Prelude.{slice_index_or, slice_set}
use Rattle.air_record.specs.declared.line.Fate.{Fate}
use Rattle.air_record.specs.declared.line.Fate.TheVariants.{Ok, Bad, Miss}
use Rattle.air_record.specs.declared.line.Outcome.{Outcome}
use Rattle.air_record.specs.declared.record.Arrived.TheVariants as arriveds
use Rattle.air_record.specs.declared.record.Record.{Record}
use Rattle.air_record.specs.declared.record.Record.TheVariants as records
use Rattle.harq.specs.declared.receiver.Answer.{Answer}
use Rattle.harq.specs.declared.receiver.Answer.TheVariants.{Up, Again, Damaged, Nothing}
use Rattle.harq.specs.declared.sender.Order.{Order}
use Rattle.harq.specs.declared.sender.Order.TheVariants.{Silent, Free}
use Rattle.harq.specs.declared.sender.Visit.{Visit}
use Rattle.harq.specs.declared.sender.Visit.TheVariants.{New, Resend, Silent as Quiet}
use Rattle.harq.specs.Receiving.{process_at as received_at, was_decoded, assigned_answer, after_assigned, grant_ndi}
use Rattle.harq.specs.Receiving.{after_grant}
use Rattle.harq.specs.Sending.{Block, process_at, seen, resend_or, version_of, visit_answer, after_feedback}
use Rattle.l2_node.specs.Building.{visit, built, building}
use Rattle.l2_node.specs.End.{End}
use Rattle.bearer_types.specs.Sides.{sent_by}
use Rattle.l2_node.specs.Hearing.{received}
use Rattle.l2_types.specs.declared.side.Side.{Side}
use Rattle.l2_types.specs.declared.side.Side.TheVariants.{Nb, Ue}
use Rattle.mac_pdu.specs.declared.item.Direction.TheVariants as directions
use Rattle.air_link.specs.Link.{Link, says, end_of}
use Rattle.air_link.specs.Downlink.{builds, built_ndi, block_at, shows, sends, hears, feeds, told_as, is_good, saw_new}
use Rattle.air_link.specs.Downlink.{sees, answer, comes, hears_by, aired, lands, unseen, down_order, down_by, downlink}
use Rattle.air_record.specs.Outcomes.{turned}
use Rattle.air_link.specs.Uplink.{up_order, is_intact, told_as as up_told_as, granted, hears_if, aired as up_aired}
use Rattle.air_link.specs.Uplink.{awake, up_by, grants, passes, uplink}
use Rattle.promises.specs.Flights.{CanCome, feedback, FliesDown, IsDown, heard_as, FliesUp, IsUp}
use Rattle.promises.specs.Records.{is_of_air}
use Rattle.law_run.specs.AnyCalls.Told.{Adds}
use Rattle.law_run.proofs.AnyCalls.Adding.{books, stays, adds_then, IsPlain, says_plain}
use Rattle.law_run.proofs.AnyCalls.Showing.{shows_adds}
use Rattle.law_run.proofs.AnyCalls.Telling.{none_is, some_is, none_from, some_from, end_stays, end_tells}

-- ---- both directions

pub builds_adds : (side : Side) (t grant : ℕ) (order : Order) (l : Link) → Adds [] l (builds side t grant order l)
builds_adds side t grant order l =
    end_tells side (built t grant order (end_of side l)) (building t grant order (end_of side l)) l

pub hears_adds : (side : Side) (block : List ℕ) (l : Link) → Adds [] l (hears side block l)
hears_adds side block l =
    let r = received (end_of side l) block in
    end_tells side (record (end_of side l) { bearers = r.bearers }) r.events l

feeds_adds : (side : Side) (t : ℕ) (good : Bool) (l : Link) → Adds [] l (feeds side t good l)
feeds_adds side t good l =
    end_stays side (record (end_of side l) { sender = after_feedback (end_of side l).sender t good }) l

-- the record of a block that is sent
abbrev sent_block : Visit → Side → ℕ → List ℕ → List Record
sent_block New side t block = records.Block (sent_by side) (t % 8) true 0 block ∷ []
sent_block (Resend rv) side t block = records.Block (sent_by side) (t % 8) false rv block ∷ []
sent_block Quiet side t block = []

pub says_of_air : (one : Record) (l : Link) → IsPlain one → is_of_air one ≡ true → Adds (one ∷ []) l (says one l)
says_of_air one l p e = subst (λ (b : Bool). Adds (cond b (one ∷ []) []) l (says one l)) e (says_plain one l p)

sends_adds : (v : Visit) (side : Side) (t : ℕ) (block : List ℕ) (l : Link)
    → Adds (sent_block v side t block) l (sends v side t block l)
sends_adds New side t block l =
    let one = records.Block (sent_by side) (t % 8) true 0 block in
    adds_then (one ∷ []) [] l (says one l) (shows (sent_by side) block (says one l))
    (says_of_air one l
    (record { no_up = λ s k. refl; no_loop = λ k. refl; no_fail = λ s k. refl; no_run = refl }) refl)
    (shows_adds (sent_by side) block (says one l))
sends_adds (Resend rv) side t block l =
    says_of_air (records.Block (sent_by side) (t % 8) false rv block) l
    (record { no_up = λ s k. refl; no_loop = λ k. refl; no_fail = λ s k. refl; no_run = refl }) refl
sends_adds Quiet side t block l = stays l l refl

-- ---- what comes of a downlink block

abbrev down_air : Bool → Answer → Record
down_air flipped a = records.Air directions.Down (told_as a) (Some (turned flipped (is_good a)))

hears_by_adds : (a : Answer) (block : List ℕ) (l : Link) → Adds [] l (hears_by a block l)
hears_by_adds Up block l = hears_adds Ue block l
hears_by_adds Again block l = stays l l refl
hears_by_adds Damaged block l = stays l l refl
hears_by_adds Nothing block l = stays l l refl

aired_adds : (t : ℕ) (flipped : Bool) (a : Answer) (block : List ℕ) (l : Link)
    → Adds (down_air flipped a ∷ []) l (aired t flipped a block l)
aired_adds t flipped a block l =
    let one = down_air flipped a in
    let m = feeds Nb t (turned flipped (is_good a)) l in
    let n = says one m in
    let told = adds_then [] (one ∷ []) l m n (feeds_adds Nb t (turned flipped (is_good a)) l)
    (says_of_air one m
    (record { no_up = λ s k. refl; no_loop = λ k. refl; no_fail = λ s k. refl; no_run = refl }) refl) in
    adds_then (one ∷ []) [] l n (hears_by a block n) told (hears_by_adds a block n)

first_books : (b : Bool) (t : ℕ) (l : Link)
    → books (if b then l else saw_new t (record l { seen = slice_set l.seen (t % 8) true })) ≡ books l
first_books true t l = refl
first_books false t l = refl

sees_books : (t : ℕ) (good : Bool) (l : Link) → books (sees t good l) ≡ books l
sees_books t true l = first_books (slice_index_or l.seen (t % 8) false) t l
sees_books t false l = first_books (slice_index_or l.seen (t % 8) false) t l

comes_books : (f : Fate) (t : ℕ) (ndi : Bool) (l : Link) → books (comes f t ndi l) ≡ books l
comes_books Miss t ndi l = refl
comes_books Ok t ndi l =
    sees_books t true (record l { ue = record l.ue { receiver = after_assigned l.ue.receiver t ndi true } })
comes_books Bad t ndi l =
    sees_books t false (record l { ue = record l.ue { receiver = after_assigned l.ue.receiver t ndi false } })

lands_adds : (t : ℕ) (o : Outcome) (ndi : Bool) (block : List ℕ) (l : Link)
    → Adds (down_air o.flipped (answer o.fate t ndi l) ∷ []) l (lands t o ndi block l)
lands_adds t o ndi block l =
    let a = answer o.fate t ndi l in
    let m = comes o.fate t ndi l in
    adds_then [] (down_air o.flipped a ∷ []) l m (aired t o.flipped a block m)
    (stays l m (comes_books o.fate t ndi l)) (aired_adds t o.flipped a block m)

unseen_books : (v : Visit) (t : ℕ) (l : Link) → books (unseen v t l) ≡ books l
unseen_books New t l = refl
unseen_books (Resend rv) t l = refl
unseen_books Quiet t l = refl

-- a block on its way down, and what comes of it
abbrev way_down : Visit → ℕ → Outcome → Bool → List ℕ → Link → Link
way_down v t o ndi block l = lands t o ndi block (sends v Nb t block (unseen v t l))

abbrev down_answer : Visit → ℕ → Outcome → Bool → List ℕ → Link → Answer
down_answer v t o ndi block l = answer o.fate t ndi (sends v Nb t block (unseen v t l))

pub way_down_adds : (v : Visit) (t : ℕ) (o : Outcome) (ndi : Bool) (block : List ℕ) (l : Link)
    → Adds (sent_block v Nb t block ++ down_air o.flipped (down_answer v t o ndi block l) ∷ []) l
    (way_down v t o ndi block l)
way_down_adds v t o ndi block l =
    let m = unseen v t l in
    let n = sends v Nb t block m in
    let sent = adds_then [] (sent_block v Nb t block) l m n (stays l m (unseen_books v t l))
    (sends_adds v Nb t block m) in
    adds_then (sent_block v Nb t block) (down_air o.flipped (answer o.fate t ndi n) ∷ []) l n (lands t o ndi block n)
    sent (lands_adds t o ndi block n)

intact_comes : (b : Bool) → (told_as (if b then Again else Up) ≡ arriveds.Got)
    ⊎ (told_as (if b then Again else Up) ≡ arriveds.Dup)
intact_comes true = inr refl
intact_comes false = inl refl

can_come : (f : Fate) (t : ℕ) (ndi : Bool) (l : Link) → CanCome f (told_as (answer f t ndi l))
unfolding assigned_answer
can_come Ok t ndi l = intact_comes (was_decoded ndi (received_at l.ue.receiver t))
can_come Bad t ndi l = refl
can_come Miss t ndi l = refl

feedback_is : (a : Answer) → is_good a ≡ feedback (told_as a)
feedback_is Up = refl
feedback_is Again = refl
feedback_is Damaged = refl
feedback_is Nothing = refl

-- ---- the downlink

pub record Downs (t grant : ℕ) (o : Outcome) (l m : Link) : Type 0 where
  pub flown : List Record
  pub adds : Adds flown l m
  pub is_down : IsDown t grant o flown

pub flies_down : (fresh : Bool) (version t : ℕ) (o : Outcome) (ndi : Bool) (block : List ℕ) (l : Link)
    → FliesDown t o (records.Block directions.Down (t % 8) fresh version block
    ∷ down_air o.flipped (answer o.fate t ndi l) ∷ [])
flies_down fresh version t o ndi block l =
    let a = answer o.fate t ndi l in
    record {
      fresh = fresh;
      version = version;
      octets = block;
      what = told_as a;
      by_fate = can_come o.fate t ndi l;
      flown_is =
          ap (λ (b : Bool). records.Block directions.Down (t % 8) fresh version block
          ∷ records.Air directions.Down (told_as a) (Some (turned o.flipped b)) ∷ []) (feedback_is a);
    }

unfoldable pub new_down : (t grant : ℕ) (o : Outcome) (ndi : Bool) (block : List ℕ) (l : Link) → (grant ≡ 0 → ⊥)
    → Downs t grant o l (way_down New t o ndi block l)
new_down t grant o ndi block l some = record {
  flown = sent_block New Nb t block ++ down_air o.flipped (down_answer New t o ndi block l) ∷ [];
  adds = way_down_adds New t o ndi block l;
  is_down = record {
    none = λ e. absurd (some e);
    one = λ h. flies_down true 0 t o ndi block (sends New Nb t block (unseen New t l));
  };
}

unfoldable pub resent_down : (rv t grant : ℕ) (o : Outcome) (ndi : Bool) (block : List ℕ) (l : Link) → (grant ≡ 0 → ⊥)
    → Downs t grant o l (way_down (Resend rv) t o ndi block l)
resent_down rv t grant o ndi block l some = record {
  flown = sent_block (Resend rv) Nb t block ++ down_air o.flipped (down_answer (Resend rv) t o ndi block l) ∷ [];
  adds = way_down_adds (Resend rv) t o ndi block l;
  is_down = record {
    none = λ e. absurd (some e);
    one = λ h. flies_down false rv t o ndi block (sends (Resend rv) Nb t block (unseen (Resend rv) t l));
  };
}

pub not_new : New ≡ Quiet → ⊥
not_new e = cc

pub not_resent : (rv : ℕ) → Resend rv ≡ Quiet → ⊥
not_resent rv e = cc

unfoldable pub down_by_adds : (v : Visit) (t grant : ℕ) (o : Outcome) (ndi : Bool) (l : Link)
    → (grant ≡ 0 → v ≡ Quiet) → (1 ≤ grant → v ≡ Quiet → ⊥) → Downs t grant o l (down_by v t o ndi l)
down_by_adds New t grant o ndi l quiet loud = new_down t grant o ndi (block_at t l.nb) l (λ e. not_new (quiet e))
down_by_adds (Resend rv) t grant o ndi l quiet loud =
    resent_down rv t grant o ndi (block_at t l.nb) l (λ e. not_resent rv (quiet e))
down_by_adds Quiet t grant o ndi l quiet loud = record {
  flown = [];
  adds = stays l l refl;
  is_down = record { none = λ e. refl; one = λ h. absurd (loud h refl) };
}

loud_or : (held : Option Block) → resend_or New held ≡ Quiet → ⊥
loud_or None e = not_new e
loud_or (Some b) e = not_resent (version_of b.sent) e

pub down_quiet : (t grant : ℕ) (e : End) → grant ≡ 0 → visit t (down_order grant) e ≡ Quiet
unfolding visit_answer
down_quiet t grant e h = rw (none_is grant h) refl

pub down_loud : (t grant : ℕ) (e : End) → 1 ≤ grant → visit t (down_order grant) e ≡ Quiet → ⊥
unfolding visit_answer
down_loud t grant e h q =
    let free : down_order grant ≡ Free = rw (some_is grant h) refl in
    loud_or (process_at e.sender t).held (subst (λ (o : Order). visit t o e ≡ Quiet) free q)

unfoldable pub downs_then : (t grant : ℕ) (o : Outcome) (l m n : Link) → Adds [] l m → Downs t grant o m n
    → Downs t grant o l n
downs_then t grant o l m n p d =
    record { flown = d.flown; adds = adds_then [] d.flown l m n p d.adds; is_down = d.is_down }

unfoldable pub downlink_adds : (t grant : ℕ) (o : Outcome) (l : Link) → Downs t grant o l (downlink t grant o l)
unfolding downlink
downlink_adds t grant o l =
    let order = down_order grant in
    let v = visit t order l.nb in
    let ndi = built_ndi Nb t grant order l in
    let m = builds Nb t grant order l in
    downs_then t grant o l m (down_by v t o ndi m) (builds_adds Nb t grant order l)
    (down_by_adds v t grant o ndi m (down_quiet t grant l.nb) (down_loud t grant l.nb))

-- ---- the uplink

pub record Ups (t grant : ℕ) (o : Outcome) (l m : Link) : Type 0 where
  pub flown : List Record
  pub adds : Adds flown l m
  pub is_up : IsUp t grant o flown

unfoldable pub ups_then : (t grant : ℕ) (o : Outcome) (l m n : Link) → Adds [] l m → Ups t grant o m n
    → Ups t grant o l n
ups_then t grant o l m n p d = record { flown = d.flown; adds = adds_then [] d.flown l m n p d.adds; is_up = d.is_up }

abbrev up_air : Bool → Bool → Record
up_air flipped good = records.Air directions.Up (up_told_as good) (Some (turned flipped good))

hears_if_adds : (good : Bool) (block : List ℕ) (l : Link) → Adds [] l (hears_if good block l)
hears_if_adds true block l = hears_adds Nb block l
hears_if_adds false block l = stays l l refl

up_aired_adds : (t : ℕ) (flipped good : Bool) (block : List ℕ) (l : Link)
    → Adds (up_air flipped good ∷ []) l (up_aired t flipped good block l)
up_aired_adds t flipped good block l =
    let one = up_air flipped good in
    let j = granted t (Some good) l in
    let m = feeds Ue t (turned flipped good) j in
    let n = says one m in
    let fed = adds_then [] [] l j m (stays l j refl) (feeds_adds Ue t (turned flipped good) j) in
    let told =
    adds_then [] (one ∷ []) l m n fed
    (says_of_air one m
    (record { no_up = λ s k. refl; no_loop = λ k. refl; no_fail = λ s k. refl; no_run = refl }) refl) in
    adds_then (one ∷ []) [] l n (hears_if good block n) told (hears_if_adds good block n)

awake_books : (v : Visit) (t : ℕ) (l : Link) → books (awake v t l) ≡ books l
awake_books New t l = refl
awake_books (Resend rv) t l = refl
awake_books Quiet t l = refl

abbrev way_up : Visit → ℕ → Outcome → List ℕ → Link → Link
way_up v t o block l = up_aired t o.flipped (is_intact o.fate) block (sends v Ue t block (awake v t l))

pub way_up_adds : (v : Visit) (t : ℕ) (o : Outcome) (block : List ℕ) (l : Link)
    → Adds (sent_block v Ue t block ++ up_air o.flipped (is_intact o.fate) ∷ []) l (way_up v t o block l)
way_up_adds v t o block l =
    let m = awake v t l in
    let n = sends v Ue t block m in
    let one = up_air o.flipped (is_intact o.fate) in
    let sent = adds_then [] (sent_block v Ue t block) l m n (stays l m (awake_books v t l))
    (sends_adds v Ue t block m) in
    adds_then (sent_block v Ue t block) (one ∷ []) l n (up_aired t o.flipped (is_intact o.fate) block n) sent
    (up_aired_adds t o.flipped (is_intact o.fate) block n)

heard_is : (f : Fate) (flipped : Bool) (one : Record)
    → one ∷ up_air flipped (is_intact f) ∷ []
    ≡ one ∷ records.Air directions.Up (heard_as f) (Some (turned flipped (feedback (heard_as f)))) ∷ []
heard_is Ok flipped one = refl
heard_is Bad flipped one = refl
heard_is Miss flipped one = refl

pub flies_up : (fresh : Bool) (version t : ℕ) (o : Outcome) (block : List ℕ)
    → FliesUp t o (records.Block directions.Up (t % 8) fresh version block ∷ up_air o.flipped (is_intact o.fate) ∷ [])
flies_up fresh version t o block =
    record {
      fresh = fresh;
      version = version;
      octets = block;
      flown_is = heard_is o.fate o.flipped (records.Block directions.Up (t % 8) fresh version block);
    }

unfoldable pub up_by_adds : (v : Visit) (t grant : ℕ) (o : Outcome) (l : Link) → 1 ≤ grant
    → (v ≡ Quiet → o.fate ≡ Miss) → Ups t grant o l (up_by v t o l)
up_by_adds New t grant o l some quiet =
    let block = block_at t l.ue in
    record {
      flown = sent_block New Ue t block ++ up_air o.flipped (is_intact o.fate) ∷ [];
      adds = way_up_adds New t o block l;
      is_up = record { none = λ e. absurd (omega arith); one = λ h. inl (flies_up true 0 t o block) };
    }
up_by_adds (Resend rv) t grant o l some quiet =
    let block = block_at t l.ue in
    record {
      flown = sent_block (Resend rv) Ue t block ++ up_air o.flipped (is_intact o.fate) ∷ [];
      adds = way_up_adds (Resend rv) t o block l;
      is_up = record { none = λ e. absurd (omega arith); one = λ h. inl (flies_up false rv t o block) };
    }
up_by_adds Quiet t grant o l some quiet =
    let one = records.Air directions.Up arriveds.Nothing None in
    let m = granted t None l in
    record {
      flown = one ∷ [];
      adds = adds_then [] (one ∷ []) l m (says one m) (stays l m refl)
          (says_of_air one m
          (record { no_up = λ s k. refl; no_loop = λ k. refl; no_fail = λ s k. refl; no_run = refl }) refl);
      is_up = record {
        none = λ e. absurd (omega arith);
        one = λ h. inr (record { missed = quiet refl; flown_is = refl });
      };
    }

pub up_missed : (t : ℕ) (f : Fate) (ndi : Bool) (e : End) → visit t (up_order f ndi) e ≡ Quiet → f ≡ Miss
unfolding visit_answer
up_missed t Ok ndi e q = absurd (loud_or (seen ndi (process_at e.sender t)).held q)
up_missed t Bad ndi e q = absurd (loud_or (seen ndi (process_at e.sender t)).held q)
up_missed t Miss ndi e q = refl

unfoldable pub grants_adds : (t grant : ℕ) (o : Outcome) (l : Link) → 1 ≤ grant → Ups t grant o l (grants t grant o l)
grants_adds t grant o l some =
    let ndi = grant_ndi l.nb.receiver t in
    let order = up_order o.fate ndi in
    let m : Link = record l { nb = record l.nb { receiver = after_grant l.nb.receiver t } } in
    let n = builds Ue t grant order m in
    let v = visit t order m.ue in
    let built' = adds_then [] [] l m n (stays l m refl) (builds_adds Ue t grant order m) in
    ups_then t grant o l n (up_by v t o n) built' (up_by_adds v t grant o n some (up_missed t o.fate ndi m.ue))

unfoldable pub passes_adds : (t grant : ℕ) (o : Outcome) (l : Link) → grant ≡ 0 → Ups t grant o l (passes t l)
passes_adds t grant o l nothing =
    let m = builds Ue t 0 Silent l in
    record {
      flown = [];
      adds = adds_then [] [] l m (passes t l) (builds_adds Ue t 0 Silent l) (stays m (passes t l) refl);
      is_up = record { none = λ e. refl; one = λ h. absurd (omega arith) };
    }

unfoldable pub uplink_if : (b : Bool) (t grant : ℕ) (o : Outcome) (l : Link) → (grant == 0) ≡ b
    → Ups t grant o l (if b then passes t l else grants t grant o l)
uplink_if true t grant o l e = passes_adds t grant o l (none_from grant e)
uplink_if false t grant o l e = grants_adds t grant o l (some_from grant e)

unfoldable pub uplink_adds : (t grant : ℕ) (o : Outcome) (l : Link) → Ups t grant o l (uplink t grant o l)
unfolding uplink
uplink_adds t grant o l = uplink_if (grant == 0) t grant o l refl
