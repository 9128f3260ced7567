-- Whose octets PDUs carry, and which places are confirmed, along every run.
use Rattle.std.proofs.Common.{◌≡◌, ◌≤◌, ◌-◌, ◌<◌, ℕ, suc, zero, ◌+◌, Bool, true, false, not, ◌&&◌, ◌==◌, if◌then◌else◌}
use Rattle.std.proofs.Common.{List, [], ◌∷◌, ◌++◌, length, map, replicate, take, drop, slice_get, Option, Some, None}
use Rattle.std.proofs.Common.{refl, ap, sym, subst, ◌∙◌, arith, nat_lt, append_assoc, length-append, length-drop, sum}
use Rattle.std.proofs.lemmas.Grind.{common_steps}
use Rattle.std.proofs.lemmas.Bool.Decides.{nat_tests}
use Rattle.std.proofs.lemmas.List.{append-nil, take_at, drop_at, drop-drop, drop-append-le, take-append-drop}
use Rattle.std.proofs.lemmas.List.{length-replicate}
use Rattle.l2_num.specs.Timers.{runs}
use Rattle.l2_types.specs.declared.config.AmTxConfig.{AmTxConfig}
use Rattle.rlc_pdu.specs.declared.pdu.Nack.{Nack}
use Rattle.rlc_pdu.specs.Pdus.{StatusPdu}
use Rattle.rlc_queue.proofs.Lens.{whole}
use Rattle.rlc_am_tx_window.specs.Sent.{Sent, rested, sent_part, recalled, next_stretch}
use Rattle.rlc_am_tx_window.specs.Window.{next, slot_at, offset_of, leading_acked}
use Rattle.rlc_am_tx.specs.declared.turn.Turn.{Turn}
use Rattle.rlc_am_tx.specs.declared.turn.Turn.TheVariants as turns
use Rattle.rlc_am_tx.specs.Machine.{State, turn, after_turn, after_status, after_expiry, is_ignored, with_poll}
use Rattle.rlc_am_tx.specs.Machine.{is_wanted, again, first_place, sent_whole, sent_segment, sent_new, new_slot}
use Rattle.rlc_am_tx.specs.Machine.{new_elements, new_partial, ended_in, ended, limit_of, stops, read, applied}
use Rattle.rlc_am_tx.specs.Machine.{with_recalled, with_owed, expired, recalled_place, expiry_limit, settled_by}
use Rattle.rlc_am_tx.specs.Machine.{settles}
use Rattle.law_rlc.specs.AmSender.Run.{Call, Offer, Take, Status, Tick, Expire, Settle, Confirm, World, after}
use Rattle.law_rlc.specs.AmSender.Run.{run_am_sender}
use Rattle.law_rlc.specs.AmSender.Run.{begun}
use Rattle.law_rlc.specs.AmSender.Acked.{acked_after}
use Rattle.law_rlc.specs.AmSender.Confirmed.{Confirmations, unconfirmed, with_sent, sent_by, with_given}
use Rattle.law_rlc.specs.AmSender.Confirmed.{confirmations_after, times, octets_in, is_done, places, AreConfirmed}
use Rattle.law_rlc.specs.AmSender.Confirmed.{ConfirmsEachOnce}
use Rattle.law_rlc.proofs.AmSender.Slots.{leading-length}
use Rattle.law_rlc.proofs.AmSender.Least.{Fits, after-fits, fresh-fits, heard_slots, heard-length}
use Rattle.law_rlc.proofs.AmSender.Credits.{one, octets_at, at-append, times-append, ascends}
use Rattle.law_rlc.proofs.AmSender.Keys.{Key, key, keys, set-keys, heard-keys, append-keys, Chained, chain-end}
use Rattle.law_rlc.proofs.AmSender.Keys.{chain-drop}
use Rattle.law_rlc.proofs.AmSender.Books.{Follows, marks, map-end, map-long}
use Rattle.law_rlc.proofs.AmSender.Owed.{Books, books_after, unacked_in, unacked}
use Rattle.law_rlc.proofs.AmSender.Books.{dealt, after-follows, after-later}

-- ---- octets by their SDU

times-replicate : (n from p : ℕ) → times p (replicate n from) ≡ one from n p
times-replicate zero from p = by (from == p)
  where
    by : (b : Bool) → zero ≡ (if b then 0 else 0)
    by true = refl
    by false = refl
times-replicate (suc n) from p = by (from == p) (times-replicate n from p)
  where
    by : (b : Bool) → times p (replicate n from) ≡ (if b then n else 0)
        → (if b then 1 else 0) + times p (replicate n from) ≡ (if b then suc n else 0)
    by true ih = omega (arith, ih)
    by false ih = omega (arith, ih)

times-marks : (from : ℕ) (ns : List ℕ) (p : ℕ) → times p (marks from ns) ≡ octets_at from ns p
times-marks from [] p = refl
times-marks from (n ∷ ns) p =
    let a = times-append p (replicate n from) (marks (from + 1) ns) in let b = times-replicate n from p in
    let ih = times-marks (from + 1) ns p in omega (arith, a, b, ih)

length-marks : (from : ℕ) (ns : List ℕ) → length (marks from ns) ≡ sum ns
length-marks from [] = refl
length-marks from (n ∷ ns) =
    let a = length-append (replicate n from) (marks (from + 1) ns) in let b = length-replicate n from in
    let ih = length-marks (from + 1) ns in grind (arith, common_steps, a, b, ih)

marks-end : (from : ℕ) (ns : List ℕ) (n : ℕ)
    → marks from (ns ++ n ∷ []) ≡ marks from ns ++ replicate n (from + length ns)
marks-end from [] n = append-nil (replicate n from)
    ∙ (let q : from ≡ from + 0 = omega arith in ap (λ (k : ℕ). replicate n k) q)
marks-end from (x ∷ xs) n =
    let q : from + 1 + length xs ≡ from + suc (length xs) = omega arith in
    ap (λ (ms : List ℕ). replicate x from ++ ms) (marks-end (from + 1) xs n
    ∙ ap (λ (k : ℕ). marks (from + 1) xs ++ replicate n k) q)
    ∙ sym (append_assoc (replicate x from) (marks (from + 1) xs) (replicate n (from + suc (length xs))))

-- ---- what PDUs carry

abbrev owners : Sent → List ℕ
owners h = marks h.place h.lens

abbrev carried : List Sent → List (List ℕ)
carried slots = map owners slots

same-carried : (xs ys : List Sent) → keys xs ≡ keys ys → carried xs ≡ carried ys
same-carried xs ys e =
    of-keys xs ∙ (ap (λ (ks : List Key). map (λ (k : Key). marks k.place k.lens) ks) e ∙ sym (of-keys ys))
  where
    of-keys : (slots : List Sent) → carried slots ≡ map (λ (k : Key). marks k.place k.lens) (keys slots)
    of-keys [] = refl
    of-keys (x ∷ xs) = ap (λ (ys : List (List ℕ)). owners x ∷ ys) (of-keys xs)

append-carried : (slots : List Sent) (h : Sent) → carried (slots ++ h ∷ []) ≡ carried slots ++ owners h ∷ []
append-carried [] h = refl
append-carried (x ∷ xs) h = ap (λ (ys : List (List ℕ)). owners x ∷ ys) (append-carried xs h)

drop-carried : (j : ℕ) (slots : List Sent) → carried (drop j slots) ≡ drop j (carried slots)
drop-carried zero slots = refl
drop-carried (suc j) [] = refl
drop-carried (suc j) (x ∷ xs) = drop-carried j xs

-- ---- how many octets of an SDU

abbrev all_in : List (List ℕ) → ℕ → ℕ
all_in [] p = 0
all_in (x ∷ xs) p = times p x + all_in xs p

both-kinds : (f : ℕ → Bool) (n : ℕ) (xs : List (List ℕ)) (p : ℕ)
    → octets_in f n xs p + octets_in (λ k. not (f k)) n xs p ≡ all_in xs p
both-kinds f n [] p = refl
both-kinds f n (x ∷ xs) p = by (f n) (both-kinds f (n + 1) xs p)
  where
    by : (b : Bool) → octets_in f (n + 1) xs p + octets_in (λ k. not (f k)) (n + 1) xs p ≡ all_in xs p
        → (if b then times p x else 0) + octets_in f (n + 1) xs p
        + ((if not b then times p x else 0) + octets_in (λ k. not (f k)) (n + 1) xs p) ≡ times p x + all_in xs p
    by true ih = omega (arith, ih)
    by false ih = omega (arith, ih)

all-append : (xs : List (List ℕ)) (x : List ℕ) (p : ℕ) → all_in (xs ++ x ∷ []) p ≡ all_in xs p + times p x
all-append [] x p = omega arith
all-append (y ∷ ys) x p = let ih = all-append ys x p in omega (arith, ih)

-- numbers that are acknowledged count for nothing
skipped : (f : ℕ → Bool) (n j : ℕ) (xs : List (List ℕ)) (p : ℕ) → ((i : ℕ) → i < n + j → f i ≡ true)
    → octets_in (λ k. not (f k)) n xs p ≡ octets_in (λ k. not (f k)) (n + j) (drop j xs) p
skipped f n zero xs p h = let q : n ≡ n + 0 = omega arith in ap (λ (k : ℕ). octets_in (λ i. not (f i)) k xs p) q
skipped f n (suc j) [] p h = refl
skipped f n (suc j) (x ∷ xs) p h =
    let ih = skipped f (n + 1) j xs p (λ i lt. h i (omega (arith, lt))) in
    let q : n + 1 + j ≡ n + suc j = omega arith in
    let a = ap (λ (k : ℕ). octets_in (λ i. not (f i)) k (drop j xs) p) q in
    let b = ap (λ (c : Bool). if not c then times p x else 0) (h n (omega arith)) in
    omega (arith, ih, a, b)

open-octets : (f : ℕ → Bool) (n : ℕ) (slots : List Sent) (p : ℕ)
    → ((k : ℕ) → k < length slots → (slot_at slots k).acked ≡ f (n + k))
    → octets_in (λ k. not (f k)) n (carried slots) p ≡ unacked_in slots p
open-octets f n [] p h = refl
open-octets f n (x ∷ xs) p h =
    let q : n + 0 ≡ n = omega arith in
    let here : x.acked ≡ f n = h 0 (omega arith) ∙ ap f q in
    let ih = open-octets f (n + 1) xs p (λ k lt. let r : n + suc k ≡ n + 1 + k = omega arith in
    h (suc k) (omega (arith, lt)) ∙ ap f r) in
    let m = times-marks x.place x.lens p in
    let b = ap (λ (c : Bool). if not c then times p (owners x) else 0) (sym here) in
    let c = flip x.acked in
    let d = ap (λ (k : ℕ). if x.acked then 0 else k) m in
    omega (arith, ih, b, c, d)
  where
    flip : (b : Bool) → (if not b then times p (owners x) else 0) ≡ (if b then 0 else times p (owners x))
    flip true = refl
    flip false = refl

carried-length : (slots : List Sent) → length (carried slots) ≡ length slots
carried-length [] = refl
carried-length (x ∷ xs) = ap suc (carried-length xs)

-- ---- any call

-- the marks of what isn't sent are those of what waits, and those of the PDUs in the window are those of their
-- elements; all marks together are as many as octets were offered
pub record Owns (s : State) (count : ℕ) (waiting : List ℕ) (pdus : List (List ℕ)) (sizes : List ℕ) : Type 0 where
  pub offered : count ≡ length sizes
  pub unsent : waiting ≡ marks s.place (map length s.queue.sdus)
  pub sent : drop s.window.base pdus ≡ carried s.window.slots
  pub number : length pdus ≡ next s.window
  pub total : (p : ℕ) → all_in pdus p + times p waiting ≡ octets_at 0 sizes p
  pub chain : Chained 0 (keys s.window.slots) s.place

abbrev Owners : State → Confirmations → Books → Type 0
Owners s g b = Owns s g.offered g.unsent g.sent b.sizes

-- a step that leaves the marks alone
same-owns : (s t : State) (g : Confirmations) (b : Books) → t.place ≡ s.place → t.queue ≡ s.queue
    → t.window.base ≡ s.window.base → keys t.window.slots ≡ keys s.window.slots → Owners s g b → Owners t g b
same-owns s t g b a c d e o = record {
  offered = o.offered;
  unsent =
      o.unsent ∙ sym (ap (λ (k : ℕ). marks k (map length t.queue.sdus)) a
      ∙ ap (λ (q : _). marks s.place (map length q.sdus)) c);
  sent = ap (λ (k : ℕ). drop k g.sent) d ∙ (o.sent ∙ sym (same-carried t.window.slots s.window.slots e));
  number = let n = o.number in let l = carried-length s.window.slots in let m = carried-length t.window.slots in
      let k = ap (λ (xs : List (List ℕ)). length xs) (same-carried t.window.slots s.window.slots e) in
      omega (arith, n, l, m, k, d);
  total = o.total;
  chain = subst (λ (k : ℕ). Chained 0 (keys t.window.slots) k) (sym a)
      (subst (λ (ks : List Key). Chained 0 ks s.place) (sym e) o.chain);
}

polled-owns : (c : Bool) (s : State) (g : Confirmations) (b : Books) → Owners s g b → Owners (with_poll c s) g b
polled-owns true s g b o = same-owns s (with_poll true s) g b refl refl refl refl o
polled-owns false s g b o = o

new-owns : (s : State) (size : ℕ) (g : Confirmations) (b : Books) → Owners s g b
    → Owners (sent_new s size) (with_sent (length (new_slot s size).field) g) b
new-owns s size g b o = record {
  offered = o.offered;
  unsent = ap (λ (ms : List ℕ). drop long ms) split
      ∙ drop_at first (marks (sent_new s size).place (map length (sent_new s size).queue.sdus)) long first-long;
  sent = drop-append-le s.window.base g.sent (take long g.unsent ∷ []) (let n = o.number in omega (arith, n))
      ∙ (ap (λ (xs : List (List ℕ)). xs ++ take long g.unsent ∷ []) o.sent
      ∙ (ap (λ (ms : List ℕ). carried s.window.slots ++ ms ∷ [])
      (ap (λ (ms : List ℕ). take long ms) split
      ∙ take_at first (marks (sent_new s size).place (map length (sent_new s size).queue.sdus)) long first-long)
      ∙ sym (append-carried s.window.slots (new_slot s size))));
  number = let n = o.number in let l = length-append g.sent (take long g.unsent ∷ []) in
      let m = length-append s.window.slots (new_slot s size ∷ []) in omega (arith, n, l, m);
  total = λ p.
      let t = o.total p in
      let a = all-append g.sent (take long g.unsent) p in
      let c = times-append p (take long g.unsent) (drop long g.unsent) in
      let d = ap (λ (ms : List ℕ). times p ms) (take-append-drop long g.unsent) in
      omega (arith, t, a, c, d);
  chain = subst (λ (ks : List Key). Chained 0 ks (sent_new s size).place)
      (sym (append-keys s.window.slots (new_slot s size)))
      (chain-end 0 (keys s.window.slots) (key (new_slot s size)) s.place (sent_new s size).place (omega arith)
      (let e = ended-most (new_partial s size) (length (new_slot s size).lens) in omega (arith, e)) o.chain);
}
  where
    ended-most : (b : Bool) (n : ℕ) → n - 1 ≤ ended_in (not b) n
    ended-most true n = omega arith
    ended-most false n = omega arith

    long : ℕ
    long = length (new_slot s size).field

    first : List ℕ
    first = marks s.place (map length (new_elements s size))

    split : g.unsent ≡ first ++ marks (sent_new s size).place (map length (sent_new s size).queue.sdus)
    split = o.unsent ∙ sym (dealt s.place 0 size 0 0 s.queue.begun s.queue.sdus).marks

    first-long : length first ≡ long
    first-long = length-marks s.place (map length (new_elements s size)) ∙ whole (new_elements s size)

turn-owns : (t : Turn) (s : State) (size : ℕ) (more : Bool) (g : Confirmations) (b : Books) → Owners s g b
    → Owners (after_turn t s size more) (sent_by t s size g) b
unfolding after_turn
turn-owns turns.Whole s size more g b o = polled-owns (is_wanted (sent_whole s) more) (sent_whole s) g b
    (same-owns s (sent_whole s) g b refl refl refl (set-keys s.window.slots (first_place s) (rested (again s)) refl) o)
turn-owns turns.Part s size more g b o = polled-owns (is_wanted (sent_segment s size) more) (sent_segment s size) g b
    (same-owns s (sent_segment s size) g b refl refl refl
    (set-keys s.window.slots (first_place s)
    (sent_part (again s) (next_stretch (again s) size).from (next_stretch (again s) size).to) refl) o)
turn-owns turns.New s size more g b o =
    polled-owns (is_wanted (sent_new s size) more) (sent_new s size) (with_sent (length (new_slot s size).field) g) b
    (new-owns s size g b o)
turn-owns turns.Idle s size more g b o = o
turn-owns turns.Stopped s size more g b o = o
turn-owns turns.Small s size more g b o = o
turn-owns turns.Shut s size more g b o = o
turn-owns turns.Held s size more g b o = o

ended-owns : (l : Option ℕ) (c : Bool) (s : State) (g : Confirmations) (b : Books) → Owners s g b
    → Owners (ended l c s) g b
ended-owns (Some n) c s g b o = same-owns s (ended (Some n) c s) g b refl refl refl refl o
ended-owns None true s g b o = same-owns s (ended None true s) g b refl refl refl refl o
ended-owns None false s g b o = o

read-owns : (s : State) (below : ℕ) (ns : List Nack) (g : Confirmations) (b : Books) → Owners s g b
    → Owners (read s below ns) g b
read-owns s below ns g b o = record {
  offered = o.offered;
  unsent = o.unsent;
  sent = sym (drop-drop lead s.window.base g.sent)
      ∙ (ap (λ (xs : List (List ℕ)). drop lead xs) (o.sent
      ∙ sym (same-carried all s.window.slots (heard-keys s.window below s.config.max_retx ns)))
      ∙ sym (drop-carried lead all));
  number = let n = o.number in let a = leading-length all in let c = length-drop lead all in
      let d = heard-length s.window below s.config.max_retx ns in omega (arith, n, a, c, d);
  total = o.total;
  chain =
      chain-drop lead 0 all s.place
      (subst (λ (ks : List Key). Chained 0 ks s.place) (sym (heard-keys s.window below s.config.max_retx ns))
      o.chain);
}
  where
    all : List Sent
    all = heard_slots s.window below s.config.max_retx ns

    lead : ℕ
    lead = leading_acked all

status-owns : (c : Bool) (s : State) (status : StatusPdu) (g : Confirmations) (b : Books) → Owners s g b
    → Owners (if c then s else applied s (offset_of s.window.base status.ack) status.nacks) g b
status-owns true s status g b o = o
status-owns false s status g b o =
    ended-owns (limit_of s (offset_of s.window.base status.ack) status.nacks)
    (stops s (offset_of s.window.base status.ack) status.nacks)
    (read s (offset_of s.window.base status.ack) status.nacks) g b
    (read-owns s (offset_of s.window.base status.ack) status.nacks g b o)

recalled-owns : (l : Option ℕ) (s : State) (g : Confirmations) (b : Books) → Owners s g b
    → Owners (with_recalled l s) g b
recalled-owns None s g b o = o
recalled-owns (Some at) s g b o =
    same-owns s (with_recalled (Some at) s) g b refl refl refl
    (set-keys s.window.slots at (recalled s.config.max_retx (slot_at s.window.slots at)) refl) o

expiry-owns : (c : Bool) (s : State) (more : Bool) (g : Confirmations) (b : Books) → Owners s g b
    → Owners (if c then ended (expiry_limit s more) false (expired s more) else s) g b
expiry-owns false s more g b o = o
expiry-owns true s more g b o = ended-owns (expiry_limit s more) false (expired s more) g b
    (recalled-owns (recalled_place s more) (with_owed s) g b (same-owns s (with_owed s) g b refl refl refl refl o))

settled-owns : (c : Bool) (s : State) (g : Confirmations) (b : Books) → Owners s g b → Owners (settled_by c s) g b
settled-owns true s g b o = same-owns s (settled_by true s) g b refl refl refl refl o
settled-owns false s g b o = o

offer-owns : (s : State) (sdu : List ℕ) (g : Confirmations) (b : Books) → Follows s b → Owners s g b
    → Owners (after s (Offer sdu)) (confirmations_after s (Offer sdu) g) (books_after s (Offer sdu) b)
offer-owns s sdu g b f o = record {
  offered = let a = o.offered in let l = length-append b.sizes (length sdu ∷ []) in omega (arith, a, l);
  unsent = ap (λ (ms : List ℕ). ms ++ replicate (length sdu) g.offered) o.unsent
      ∙ (ap (λ (k : ℕ). marks s.place (map length s.queue.sdus) ++ replicate (length sdu) k) place
      ∙ (sym (marks-end s.place (map length s.queue.sdus) (length sdu))
      ∙ sym (ap (λ (ns : List ℕ). marks s.place ns) (map-end s.queue.sdus sdu))));
  sent = o.sent;
  number = o.number;
  total = λ p.
      let t = o.total p in
      let a = times-append p g.unsent (replicate (length sdu) g.offered) in
      let c = times-replicate (length sdu) g.offered p in
      let d = at-append 0 b.sizes (length sdu) p in
      let n = o.offered in
      let q : 0 + length b.sizes ≡ g.offered = omega (arith, n) in
      let e = ap (λ (k : ℕ). one k (length sdu) p) q in
      omega (arith, t, a, c, d, e);
  chain = o.chain;
}
  where
    place : g.offered ≡ s.place + length (map length s.queue.sdus)
    place = let a = f.aligned in let m = f.many in let n = o.offered in let l = map-long s.queue.sdus in
        omega (arith, a, m, n, l)

after-owns : (s : State) (c : Call) (g : Confirmations) (b : Books) → Follows s b → Owners s g b
    → Owners (after s c) (confirmations_after s c g) (books_after s c b)
unfolding after_status after_expiry
after-owns s (Offer sdu) g b f o = offer-owns s sdu g b f o
after-owns s (Take size held more) g b f o = turn-owns (turn s size held more) s size more g b o
after-owns s (Status status) g b f o = status-owns (is_ignored s status.ack) s status g b o
after-owns s Tick g b f o = same-owns s (after s Tick) g b refl refl refl refl o
after-owns s (Expire more) g b f o = expiry-owns (runs s.polls.timer) s more g b o
after-owns s (Settle more) g b f o = settled-owns (settles s more) s g b o
after-owns s Confirm g b f o = same-owns s (after s Confirm) g b refl refl refl refl o

-- the other parts of the past

sent-acked : (t : Turn) (s : State) (size : ℕ) (g : Confirmations) → (sent_by t s size g).acked ≡ g.acked
sent-acked turns.New s size g = refl
sent-acked turns.Whole s size g = refl
sent-acked turns.Part s size g = refl
sent-acked turns.Idle s size g = refl
sent-acked turns.Stopped s size g = refl
sent-acked turns.Small s size g = refl
sent-acked turns.Shut s size g = refl
sent-acked turns.Held s size g = refl

pub after-acked : (s : State) (c : Call) (g : Confirmations)
    → (confirmations_after s c g).acked ≡ acked_after s c g.acked
after-acked s (Offer sdu) g = refl
after-acked s (Take size held more) g = sent-acked (turn s size held more) s size g
after-acked s (Status status) g = refl
after-acked s Tick g = refl
after-acked s (Expire more) g = refl
after-acked s (Settle more) g = refl
after-acked s Confirm g = refl

sent-given : (t : Turn) (s : State) (size : ℕ) (g : Confirmations) → (sent_by t s size g).given ≡ g.given
sent-given turns.New s size g = refl
sent-given turns.Whole s size g = refl
sent-given turns.Part s size g = refl
sent-given turns.Idle s size g = refl
sent-given turns.Stopped s size g = refl
sent-given turns.Small s size g = refl
sent-given turns.Shut s size g = refl
sent-given turns.Held s size g = refl

after-given : (s : State) (c : Call) (g : Confirmations) (b : Books) → b.given ≡ g.given
    → (books_after s c b).given ≡ (confirmations_after s c g).given
after-given s (Offer sdu) g b e = e
after-given s (Take size held more) g b e = e ∙ sym (sent-given (turn s size held more) s size g)
after-given s (Status status) g b e = e
after-given s Tick g b e = e
after-given s (Expire more) g b e = e
after-given s (Settle more) g b e = e
after-given s Confirm g b e = ap (λ (xs : List ℕ). with_given (slice_get s.accounts.news 0) xs) e

pub record Keeps (s : State) (g : Confirmations) (b : Books) : Type 0 where
  pub follows : Follows s b
  pub fits : Fits s.window g.acked
  pub owns : Owners s g b
  pub given : b.given ≡ g.given

pub after-keeps : (s : State) (c : Call) (g : Confirmations) (b : Books) → Keeps s g b
    → Keeps (after s c) (confirmations_after s c g) (books_after s c b)
after-keeps s c g b k = record {
  follows = after-follows s c b k.follows;
  fits = subst (λ (f : ℕ → Bool). Fits (after s c).window f) (sym (after-acked s c g)) (after-fits s c g.acked k.fits);
  owns = after-owns s c g b k.follows k.owns;
  given = after-given s c g b k.given;
}

-- octets that aren't in acknowledged PDUs
open-is : (s : State) (g : Confirmations) (b : Books) (p : ℕ) → Keeps s g b
    → octets_in (λ n. not (g.acked n)) 0 g.sent p + times p g.unsent ≡ unacked s p
open-is s g b p k =
    let f = k.fits in let o = k.owns in
    let a = skipped g.acked 0 s.window.base g.sent p (λ i lt. f.below i (omega (arith, lt))) in
    let q : 0 + s.window.base ≡ s.window.base = omega arith in
    let c = ap (λ (n : ℕ). octets_in (λ i. not (g.acked i)) n (drop s.window.base g.sent) p) q in
    let d = ap (λ (xs : List (List ℕ)). octets_in (λ i. not (g.acked i)) s.window.base xs p) o.sent in
    let e = open-octets g.acked s.window.base s.window.slots p f.slots in
    let u = ap (λ (ms : List ℕ). times p ms) o.unsent in
    let m = times-marks s.place (map length s.queue.sdus) p in
    omega (arith, a, c, d, e, u, m)

done-test : (z u a : ℕ) → a + u ≡ z → (nat_lt 0 z && (u == 0)) ≡ (nat_lt 0 a && (u == 0))
done-test z u a e = grind (arith, nat_tests, e)

once-of : (s : State) (g : Confirmations) (b : Books) → Keeps s g b → (p : ℕ)
    → times p (places s g) ≡ (if is_done g p then 1 else 0)
once-of s g b k p =
    let f = k.follows in let o = k.owns in
    let t = o.total p in
    let u = open-is s g b p k in
    let h = both-kinds g.acked 0 g.sent p in
    let z : octets_in g.acked 0 g.sent p + (octets_in (λ n. not (g.acked n)) 0 g.sent p + times p g.unsent)
    ≡ octets_at 0 b.sizes p = omega (arith, t, h) in
    ap (λ (xs : List ℕ). times p (xs ++ s.accounts.news)) (sym k.given)
    ∙ ((f.tells p).count
    ∙ (ap (λ (n : ℕ). if nat_lt 0 (octets_at 0 b.sizes p) && (n == 0) then 1 else 0) (f.owed p ∙ sym u)
    ∙ ap (λ (c : Bool). if c then 1 else 0)
    (done-test (octets_at 0 b.sizes p) (octets_in (λ n. not (g.acked n)) 0 g.sent p + times p g.unsent)
    (octets_in g.acked 0 g.sent p) z)))

confirmed-of : (w : World Confirmations) (b : Books) → Keeps w.state w.past b → AreConfirmed w
confirmed-of w b k = record {
  once = once-of w.state w.past b k;
  order = λ c.
      let l = after-later w.state c w.past.given k.owns.chain in
      let e = ap (λ (xs : List ℕ). xs ++ (after w.state c).accounts.news)
      (sym (after-given w.state c w.past (record { sizes = []; given = w.past.given }) refl)) ∙ l.1.0 in (
        l.0,
        (
          e,
          ascends 0 w.state.place l.0 l.1.1 (λ p.
              let t = once-of (after w.state c) (confirmations_after w.state c w.past) (books_after w.state c b)
              (after-keeps w.state c w.past b k) p in
              let m = most (is_done (confirmations_after w.state c w.past) p) in
              let a = ap (λ (xs : List ℕ). times p xs) e in
              let d = times-append p (places w.state w.past) l.0 in
              omega (arith, t, m, a, d)),
        ),
      );
}
  where
    most : (c : Bool) → (if c then 1 else 0) ≤ 1
    most true = omega arith
    most false = omega arith

run-confirmed : (calls : List Call) (w : World Confirmations) (b : Books) → Keeps w.state w.past b
    → AreConfirmed (run_am_sender confirmations_after calls w)
run-confirmed [] w b k = confirmed-of w b k
run-confirmed (c ∷ cs) w b k =
    run-confirmed cs (record { state = after w.state c; past = confirmations_after w.state c w.past })
    (books_after w.state c b) (after-keeps w.state c w.past b k)

-- as a life begins
pub begun-keeps : (config : AmTxConfig)
    → Keeps (begun config unconfirmed).state unconfirmed (record { sizes = []; given = [] })
begun-keeps config = record {
  follows = record {
    aligned = refl;
    many = refl;
    owed = λ p. refl;
    tells = λ p. record { count = refl; bound = omega arith };
  };
  fits = fresh-fits config;
  owns = record { offered = refl; unsent = refl; sent = refl; number = refl; total = λ p. refl; chain = omega arith };
  given = refl;
}

pub confirms : ConfirmsEachOnce
confirms config calls =
    run-confirmed calls (begun config unconfirmed) (record { sizes = []; given = [] }) (begun-keeps config)
