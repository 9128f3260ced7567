-- What the ledger keeps, along every run.
use Rattle.std.proofs.Common.{◌≡◌, ◌<◌, ◌≤◌, ◌⊎◌, inl, inr, ℕ, suc, ◌+◌, ◌-◌, Bool, true, false, not, ◌==◌}
use Rattle.std.proofs.Common.{if◌then◌else◌, List, [], ◌∷◌, ◌++◌, length, map, replicate, take, drop, slice_get, Option}
use Rattle.std.proofs.Common.{Some, None, refl, ap, sym, subst, ◌∙◌, arith, nat_lt, append_assoc}
use Rattle.std.proofs.Common.{length-append, length-drop}
use Rattle.std.proofs.lemmas.Bool.Decides.{nat_tests}
use Rattle.std.proofs.lemmas.Bool.{cases_eq}
use Rattle.std.proofs.lemmas.List.{append-nil, length-take, replicate-append-replicate}
use Rattle.l2_num.specs.Timers.{runs}
use Rattle.rlc_pdu.specs.declared.pdu.Nack.{Nack}
use Rattle.rlc_pdu.specs.Pdus.{StatusPdu}
use Rattle.rlc_queue.specs.Waiting.{behind}
use Rattle.rlc_queue.specs.NewPdu.{elements, rest, partial, room, may_follow}
use Rattle.rlc_am_tx_window.specs.Ledger.{Owed, Ledger, swept}
use Rattle.rlc_am_tx_window.specs.Sent.{Sent, rested, sent_part, recalled, next_stretch}
use Rattle.rlc_am_tx_window.specs.Window.{slot_at, offset_of, named_all, acked_from}
use Rattle.rlc_am_tx_window.specs.Window.{considered_all, credited_from}
use Rattle.rlc_am_tx.specs.declared.turn.Turn.{Turn}
use Rattle.rlc_am_tx.specs.declared.turn.Turn.TheVariants as turns
use Rattle.rlc_am_tx.specs.Machine.{State, turn, after_turn, after_status, after_expiry, is_ignored, with_poll}
use Rattle.rlc_am_tx.specs.Machine.{is_wanted, again, first_place, sent_whole, sent_segment, sent_new, new_slot}
use Rattle.rlc_am_tx.specs.Machine.{ended_in, ended, limit_of, stops, read, applied, with_recalled, with_owed, expired}
use Rattle.rlc_am_tx.specs.Machine.{recalled_place, expiry_limit, settled_by, settles}
use Rattle.law_rlc.specs.AmSender.Run.{Call, Offer, Take, Status, Tick, Expire, Settle, Confirm, after, begun}
use Rattle.law_rlc.specs.AmSender.Confirmed.{with_given, times}
use Rattle.law_rlc.proofs.AmSender.Keys.{Key, keys, named-keys, Chained}
use Rattle.law_rlc.proofs.AmSender.Credits.{Between, octets_at, one, one-same, one-other, at-append, at-past, owed_at}
use Rattle.law_rlc.proofs.AmSender.Credits.{owed-append, Counted, Tells, Grows, grows-same}
use Rattle.law_rlc.proofs.AmSender.Credits.{offers, swept-offers, owed-swept}
use Rattle.law_rlc.proofs.AmSender.Owed.{Books, books_after, unacked_in, unacked, held, set-held, named-held}
use Rattle.law_rlc.proofs.AmSender.Owed.{considered-held, advanced-held, append-held, credited-held, from-tells}
use Rattle.law_rlc.proofs.AmSender.Owed.{from-grows, from-offers}

-- ---- a new PDU

partial-some : (head size c u : ℕ) (sdus : List (List ℕ)) → partial head size c u false sdus ≡ true
    → 0 < length (map length (elements head size c u sdus))
partial-some head size c u [] e = let no' : false ≡ true = e in cc
partial-some head size c u (x ∷ xs) e = by (room head size c u == 0) e
  where
    by : (z : Bool)
        → (if z then false else if may_follow (room head size c u) x
        then partial head size (c + 1) (u + length x) false xs else nat_lt (room head size c u) (length x)) ≡ true
        → 0
        < length
        (map length (if z then [] else take (room head size c u) x
        ∷ (if may_follow (room head size c u) x then elements head size (c + 1) (u + length x) xs else [])))
    by true e = let no' : false ≡ true = e in cc
    by false e = omega arith

next-ended : (p : Bool) (k : ℕ) → (p ≡ true → 0 < k) → ended_in (not p) (suc k) ≡ ended_in (not p) k + 1
next-ended true k some = let s = some refl in omega (arith, s)
next-ended false k some = omega arith

none-ended : (p : Bool) → ended_in (not p) 0 ≡ 0
none-ended true = omega arith
none-ended false = refl

one-sum : (from a b p : ℕ) → one from a p + one from b p ≡ one from (a + b) p
one-sum from a b p = by (from == p)
  where
    by : (c : Bool) → (if c then a else 0) + (if c then b else 0) ≡ (if c then a + b else 0)
    by true = refl
    by false = omega arith

-- for each octet, in order, the place of its SDU
abbrev pub marks : ℕ → List ℕ → List ℕ
marks from [] = []
marks from (n ∷ ns) = replicate n from ++ marks (from + 1) ns

pub record IsDealt (from p : ℕ) (es rs sdus : List (List ℕ)) (part : Bool) : Type 0 where
  pub octets : octets_at from (map length es) p + octets_at (from + ended_in (not part) (length (map length es)))
      (map length rs) p ≡ octets_at from (map length sdus) p
  pub marks : marks from (map length es) ++ marks (from + ended_in (not part) (length (map length es)))
      (map length rs) ≡ marks from (map length sdus)
  pub many : ended_in (not part) (length (map length es)) + length rs ≡ length sdus

deal-step : (from p n : ℕ) (x : List ℕ) (xs es rs : List (List ℕ)) (begun part z f : Bool) → may_follow n x ≡ f
    → (part ≡ true → 0 < length (map length es)) → IsDealt (from + 1) p es rs xs part
    → IsDealt from p (if z then [] else take n x ∷ (if f then es else []))
    (if z then x ∷ xs else if f then rs else behind n (x ∷ xs)) (x ∷ xs)
    (if z then begun else if f then part else nat_lt n (length x))
deal-step from p n x xs es rs begun part true f ef some ih =
    let z = none-ended begun in
    let e : from + ended_in (not begun) 0 ≡ from = omega (arith, z) in
    record {
      octets = let a = ap (λ (k : ℕ). octets_at k (map length (x ∷ xs)) p) e in omega (arith, a);
      marks = ap (λ (k : ℕ). marks k (map length (x ∷ xs))) e;
      many = omega (arith, z);
    }
deal-step from p n x xs es rs begun part false true ef some ih =
    let le : length x ≤ n = grind (arith, nat_tests, ef) in
    let l = length-take n x in
    let m : length (take n x) ≡ length x = omega (arith, l, le) in
    let z = next-ended part (length (map length es)) some in
    let behind-it : from + ended_in (not part) (suc (length (map length es)))
    ≡ from + 1 + ended_in (not part) (length (map length es)) = omega (arith, z) in
    record {
      marks =
          append_assoc (replicate (length (take n x)) from) (marks (from + 1) (map length es))
          (marks (from + ended_in (not part) (suc (length (map length es)))) (map length rs))
          ∙ (ap (λ (k : ℕ). replicate k from
          ++ (marks (from + 1) (map length es) ++ marks (from + ended_in (not part) (suc (length (map length es))))
          (map length rs))) m
          ∙ (ap (λ (k : ℕ). replicate (length x) from
          ++ (marks (from + 1) (map length es) ++ marks k (map length rs))) behind-it
          ∙ ap (λ (ms : List ℕ). replicate (length x) from ++ ms) ih.marks));
      octets =
          let o = ih.octets in
          let t = ap (λ (k : ℕ). one from k p) m in
          let q : from + ended_in (not part) (suc (length (map length es)))
          ≡ from + 1 + ended_in (not part) (length (map length es)) = omega (arith, z) in
          let a = ap (λ (k : ℕ). octets_at k (map length rs) p) q in
          omega (arith, o, t, a);
      many = let k = ih.many in omega (arith, k, z);
    }
deal-step from p n x xs es rs begun part false false ef some ih = by (nat_lt n (length x)) refl
  where
    by : (b : Bool) → nat_lt n (length x) ≡ b
        → IsDealt from p (take n x ∷ []) (if b then drop n x ∷ xs else xs) (x ∷ xs) b
    by true e =
        let lt : n < length x = grind (arith, nat_tests) in
        let l = length-take n x in let d = length-drop n x in
        record {
          octets =
              let q : from + (1 - 1) ≡ from = omega arith in
              let a = ap (λ (k : ℕ). octets_at k (map length (drop n x ∷ xs)) p) q in
              let s = one-sum from (length (take n x)) (length (drop n x)) p in
              let w : length (take n x) + length (drop n x) ≡ length x = omega (arith, l, d, lt) in
              let t = ap (λ (k : ℕ). one from k p) w in
              omega (arith, a, s, t);
          marks =
              let q : from + (1 - 1) ≡ from = omega arith in
              let w : length (take n x) + length (drop n x) ≡ length x = omega (arith, l, d, lt) in
              ap (λ (ms : List ℕ). ms ++ marks (from + (1 - 1)) (map length (drop n x ∷ xs)))
              (append-nil (replicate (length (take n x)) from))
              ∙ (ap (λ (k : ℕ). replicate (length (take n x)) from ++ marks k (map length (drop n x ∷ xs))) q
              ∙ (sym (append_assoc (replicate (length (take n x)) from) (replicate (length (drop n x)) from)
              (marks (from + 1) (map length xs)))
              ∙ (ap (λ (ms : List ℕ). ms ++ marks (from + 1) (map length xs))
              (replicate-append-replicate (length (take n x)) (length (drop n x)) from)
              ∙ ap (λ (k : ℕ). replicate k from ++ marks (from + 1) (map length xs)) w)));
          many = omega arith;
        }
    by false e =
        let le : length x ≤ n = grind (arith, nat_tests) in
        let l = length-take n x in
        let m : length (take n x) ≡ length x = omega (arith, l, le) in
        record {
          octets = let t = ap (λ (k : ℕ). one from k p) m in omega (arith, t);
          marks = ap (λ (ms : List ℕ). ms ++ marks (from + 1) (map length xs))
              (append-nil (replicate (length (take n x)) from))
              ∙ ap (λ (k : ℕ). replicate k from ++ marks (from + 1) (map length xs)) m;
          many = omega arith;
        }

pub dealt : (from p size c u : ℕ) (begun : Bool) (sdus : List (List ℕ))
    → IsDealt from p (elements 2 size c u sdus) (rest 2 size c u sdus) sdus (partial 2 size c u begun sdus)
dealt from p size c u begun [] = let z = none-ended begun in
    record { octets = refl; marks = refl; many = omega (arith, z) }
dealt from p size c u begun (x ∷ xs) =
    deal-step from p (room 2 size c u) x xs (elements 2 size (c + 1) (u + length x) xs)
    (rest 2 size (c + 1) (u + length x) xs) begun (partial 2 size (c + 1) (u + length x) false xs)
    (room 2 size c u == 0) (may_follow (room 2 size c u) x) refl (partial-some 2 size (c + 1) (u + length x) xs)
    (dealt (from + 1) p size (c + 1) (u + length x) false xs)

-- ---- any call

-- as many SDUs were offered as the ledger has; what is owed of each is what isn't acknowledged of it; and its place is
-- told once where that is nothing
pub record Follows (s : State) (g : Books) : Type 0 where
  pub aligned : s.place + length s.queue.sdus ≡ offers s.accounts
  pub many : length g.sizes ≡ offers s.accounts
  pub owed : (p : ℕ) → owed_at s.accounts p ≡ unacked s p
  pub tells : Tells g.sizes g.given s.accounts

-- a step that leaves the SDUs alone
keeps : (s t : State) (g : Books) → t.accounts ≡ s.accounts → t.place ≡ s.place → t.queue ≡ s.queue
    → ((p : ℕ) → unacked_in t.window.slots p ≡ unacked_in s.window.slots p) → Follows s g → Follows t g
keeps s t g a b c w f = record {
  aligned = ap (λ (k : ℕ). k + length t.queue.sdus) b
      ∙ (ap (λ (q : _). s.place + length q.sdus) c ∙ (f.aligned ∙ sym (ap offers a)));
  many = f.many ∙ sym (ap offers a);
  owed = λ p. ap (λ (l : Ledger). owed_at l p) a
      ∙ (f.owed p ∙ sym (ap (λ (k : ℕ). k + octets_at t.place (map length t.queue.sdus) p) (w p)
      ∙ (ap (λ (k : ℕ). unacked_in s.window.slots p + octets_at k (map length t.queue.sdus) p) b
      ∙ ap (λ (q : _). unacked_in s.window.slots p + octets_at s.place (map length q.sdus) p) c)));
  tells = subst (λ (l : Ledger). Tells g.sizes g.given l) (sym a) f.tells;
}

polled-follows : (b : Bool) (s : State) (g : Books) → Follows s g → Follows (with_poll b s) g
polled-follows true s g f = keeps s (with_poll true s) g refl refl refl (λ p. refl) f
polled-follows false s g f = f

new-follows : (s : State) (size : ℕ) (g : Books) → Follows s g → Follows (sent_new s size) g
new-follows s size g f = record {
  aligned = let a = f.aligned in let d = (dealt s.place 0 size 0 0 s.queue.begun s.queue.sdus).many in
      omega (arith, a, d);
  many = f.many;
  owed = λ p.
      let o = f.owed p in
      let h = append-held s.window.slots (new_slot s size) p in
      let d = (dealt s.place p size 0 0 s.queue.begun s.queue.sdus).octets in
      omega (arith, o, h, d);
  tells = f.tells;
}

turn-follows : (t : Turn) (s : State) (size : ℕ) (more : Bool) (g : Books) → Follows s g
    → Follows (after_turn t s size more) g
unfolding after_turn
turn-follows turns.Whole s size more g f = polled-follows (is_wanted (sent_whole s) more) (sent_whole s) g
    (keeps s (sent_whole s) g refl refl refl (λ p. set-held s.window.slots (first_place s) (rested (again s)) p refl) f)
turn-follows turns.Part s size more g f = polled-follows (is_wanted (sent_segment s size) more) (sent_segment s size) g
    (keeps s (sent_segment s size) g refl refl refl
    (λ p. set-held s.window.slots (first_place s)
    (sent_part (again s) (next_stretch (again s) size).from (next_stretch (again s) size).to) p refl) f)
turn-follows turns.New s size more g f =
    polled-follows (is_wanted (sent_new s size) more) (sent_new s size) g (new-follows s size g f)
turn-follows turns.Idle s size more g f = f
turn-follows turns.Stopped s size more g f = f
turn-follows turns.Small s size more g f = f
turn-follows turns.Shut s size more g f = f
turn-follows turns.Held s size more g f = f

ended-follows : (l : Option ℕ) (b : Bool) (s : State) (g : Books) → Follows s g → Follows (ended l b s) g
ended-follows (Some n) b s g f = keeps s (ended (Some n) b s) g refl refl refl (λ p. refl) f
ended-follows None true s g f = keeps s (ended None true s) g refl refl refl (λ p. refl) f
ended-follows None false s g f = f

read-follows : (s : State) (below : ℕ) (ns : List Nack) (g : Books) → Follows s g → Follows (read s below ns) g
read-follows s below ns g f = record {
  aligned = f.aligned ∙ sym offered-same;
  many = f.many ∙ sym offered-same;
  owed = λ p.
      let a = owed-swept credited.oldest credited.entries p in
      let n = named-held s.window.base s.window.slots ns p in
      let o = f.owed p in
      let c = credited-held s.accounts 0 below named p (octets_at s.place (map length s.queue.sdus) p)
      (omega (arith, n, o)) in
      let d = considered-held s.window.base s.config.max_retx (acked_from 0 below named) ns p in
      let e = advanced-held (considered_all s.window.base s.config.max_retx (acked_from 0 below named) ns) p in
      omega (arith, a, c, d, e);
  tells = λ p. subst (λ (k : ℕ). Counted (times p (g.given ++ credited.news)) k (octets_at 0 g.sizes p))
      (sym (owed-swept credited.oldest credited.entries p))
      (from-tells g.sizes g.given s.accounts 0 below named f.tells p);
}
  where
    named : List Sent
    named = named_all s.window.base s.window.slots ns

    credited : Ledger
    credited = credited_from s.accounts 0 below named

    offered-same : offers (swept credited) ≡ offers s.accounts
    offered-same = swept-offers credited.oldest credited.entries ∙ from-offers s.accounts 0 below named

status-follows : (b : Bool) (s : State) (status : StatusPdu) (g : Books) → Follows s g
    → Follows (if b then s else applied s (offset_of s.window.base status.ack) status.nacks) g
status-follows true s status g f = f
status-follows false s status g f =
    ended-follows (limit_of s (offset_of s.window.base status.ack) status.nacks)
    (stops s (offset_of s.window.base status.ack) status.nacks)
    (read s (offset_of s.window.base status.ack) status.nacks) g
    (read-follows s (offset_of s.window.base status.ack) status.nacks g f)

recalled-follows : (o : Option ℕ) (s : State) (g : Books) → Follows s g → Follows (with_recalled o s) g
recalled-follows None s g f = f
recalled-follows (Some at) s g f =
    keeps s (with_recalled (Some at) s) g refl refl refl
    (λ p. set-held s.window.slots at (recalled s.config.max_retx (slot_at s.window.slots at)) p refl) f

expiry-follows : (b : Bool) (s : State) (more : Bool) (g : Books) → Follows s g
    → Follows (if b then ended (expiry_limit s more) false (expired s more) else s) g
expiry-follows false s more g f = f
expiry-follows true s more g f = ended-follows (expiry_limit s more) false (expired s more) g
    (recalled-follows (recalled_place s more) (with_owed s) g (keeps s (with_owed s) g refl refl refl (λ p. refl) f))

settled-follows : (b : Bool) (s : State) (g : Books) → Follows s g → Follows (settled_by b s) g
settled-follows true s g f = keeps s (settled_by true s) g refl refl refl (λ p. refl) f
settled-follows false s g f = f

-- an SDU more
offer-counted : (t k z j n : ℕ) → Counted t k z → (j ≡ 0) ⊎ ((z ≡ 0) × (j ≡ n)) → Counted t (k + j) (z + j)
offer-counted t k z j n c w = let a = c.count in let b = c.bound in elim w [
  | inl none ↦ rw none
      (subst (λ (x : ℕ). Counted t x (z + 0)) (omega arith) (subst (λ (x : ℕ). Counted t k x) (omega arith) c))
  | inr past ↦ let past0 = past.0 in record { count = grind (arith, nat_tests, a, b, past0); bound = omega (arith, b) }
]

pub map-end : (xs : List (List ℕ)) (x : List ℕ) → map length (xs ++ x ∷ []) ≡ map length xs ++ length x ∷ []
map-end [] x = refl
map-end (y ∷ ys) x = ap (λ (l : List ℕ). length y ∷ l) (map-end ys x)

pub map-long : (xs : List (List ℕ)) → length (map length xs) ≡ length xs
map-long [] = refl
map-long (x ∷ xs) = ap suc (map-long xs)

offer-follows : (s : State) (sdu : List ℕ) (g : Books) → Follows s g
    → Follows (after s (Offer sdu)) (books_after s (Offer sdu) g)
offer-follows s sdu g f = record {
  aligned = let a = f.aligned in let l = length-append s.queue.sdus (sdu ∷ []) in
      let m = length-append s.accounts.entries (entry ∷ []) in omega (arith, a, l, m);
  many = let a = f.many in let l = length-append g.sizes (length sdu ∷ []) in
      let m = length-append s.accounts.entries (entry ∷ []) in omega (arith, a, l, m);
  owed = λ p.
      let o = f.owed p in
      let a = owed-append s.accounts.oldest s.accounts.entries entry p in
      let b = ap (λ (xs : List ℕ). octets_at s.place xs p) (map-end s.queue.sdus sdu) in
      let c = at-append s.place (map length s.queue.sdus) (length sdu) p in
      let l = map-long s.queue.sdus in
      let al = f.aligned in
      let q : s.place + length (map length s.queue.sdus) ≡ s.accounts.oldest + length s.accounts.entries =
      omega (arith, l, al) in
      let e = ap (λ (k : ℕ). one k (length sdu) p) q in
      omega (arith, o, a, b, c, e);
  tells = λ p.
      let a = owed-append s.accounts.oldest s.accounts.entries entry p in
      let b = at-append 0 g.sizes (length sdu) p in
      let m = f.many in
      let q : 0 + length g.sizes ≡ offers s.accounts = omega (arith, m) in
      let e = ap (λ (k : ℕ). one k (length sdu) p) q in
      subst (λ (k : ℕ). Counted (times p (g.given ++ s.accounts.news)) k (octets_at 0 (g.sizes ++ length sdu ∷ []) p))
      (sym a)
      (subst (λ (k : ℕ). Counted (times p (g.given ++ s.accounts.news))
      (owed_at s.accounts p + one (offers s.accounts) (length sdu) p) k)
      (sym (b ∙ ap (λ (k : ℕ). octets_at 0 g.sizes p + k) e))
      (offer-counted (times p (g.given ++ s.accounts.news)) (owed_at s.accounts p) (octets_at 0 g.sizes p)
      (one (offers s.accounts) (length sdu) p) (length sdu) (f.tells p) (where-new p)));
}
  where
    entry : Owed
    entry = record { size = length sdu; owed = length sdu }

    where-new : (p : ℕ) → (one (offers s.accounts) (length sdu) p ≡ 0)
        ⊎ ((octets_at 0 g.sizes p ≡ 0) × (one (offers s.accounts) (length sdu) p ≡ length sdu))
    where-new p = elim (cases_eq (offers s.accounts) p) [
      | inl same ↦ inr (
        at-past 0 g.sizes p (let m = f.many in omega (arith, m, same)),
        one-same (offers s.accounts) (length sdu) p same,
      )
      | inr other ↦ inl (one-other (offers s.accounts) (length sdu) p other)
    ]

-- a place is handed over
handed : (given news : List ℕ) → with_given (slice_get news 0) given ++ drop 1 news ≡ given ++ news
handed given [] = refl
handed given (x ∷ xs) = append_assoc given (x ∷ []) xs

confirm-follows : (s : State) (g : Books) → Follows s g → Follows (after s Confirm) (books_after s Confirm g)
confirm-follows s g f = record {
  aligned = f.aligned;
  many = f.many;
  owed = f.owed;
  tells = λ p. subst (λ (xs : List ℕ). Counted (times p xs) (owed_at s.accounts p) (octets_at 0 g.sizes p))
      (sym (handed g.given s.accounts.news)) (f.tells p);
}

pub after-follows : (s : State) (c : Call) (g : Books) → Follows s g → Follows (after s c) (books_after s c g)
unfolding after_status after_expiry
after-follows s (Offer sdu) g f = offer-follows s sdu g f
after-follows s (Take size held more) g f = turn-follows (turn s size held more) s size more g f
after-follows s (Status status) g f = status-follows (is_ignored s status.ack) s status g f
after-follows s Tick g f = keeps s (after s Tick) g refl refl refl (λ p. refl) f
after-follows s (Expire more) g f = expiry-follows (runs s.polls.timer) s more g f
after-follows s (Settle more) g f = settled-follows (settles s more) s g f
after-follows s Confirm g f = confirm-follows s g f

-- ---- the order

abbrev Later : State → State → Type 0
Later s t = Grows 0 s.place s.accounts t.accounts

later-same : (s t : State) → t.accounts ≡ s.accounts → Later s t
later-same s t e = grows-same 0 s.place s.accounts t.accounts (omega arith) (ap (λ (l : Ledger). l.news) e)

polled-accounts : (b : Bool) (s : State) → (with_poll b s).accounts ≡ s.accounts
polled-accounts true s = refl
polled-accounts false s = refl

pub turn-accounts : (t : Turn) (s : State) (size : ℕ) (more : Bool) → (after_turn t s size more).accounts ≡ s.accounts
unfolding after_turn
turn-accounts turns.Whole s size more = polled-accounts (is_wanted (sent_whole s) more) (sent_whole s)
turn-accounts turns.Part s size more = polled-accounts (is_wanted (sent_segment s size) more) (sent_segment s size)
turn-accounts turns.New s size more = polled-accounts (is_wanted (sent_new s size) more) (sent_new s size)
turn-accounts turns.Idle s size more = refl
turn-accounts turns.Stopped s size more = refl
turn-accounts turns.Small s size more = refl
turn-accounts turns.Shut s size more = refl
turn-accounts turns.Held s size more = refl

pub ended-accounts : (l : Option ℕ) (b : Bool) (s : State) → (ended l b s).accounts ≡ s.accounts
ended-accounts (Some n) b s = refl
ended-accounts None true s = refl
ended-accounts None false s = refl

recalled-accounts : (o : Option ℕ) (s : State) → (with_recalled o s).accounts ≡ s.accounts
recalled-accounts None s = refl
recalled-accounts (Some at) s = refl

abbrev Chains : State → Type 0
Chains s = Chained 0 (keys s.window.slots) s.place

status-later : (b : Bool) (s : State) (status : StatusPdu) → Chains s
    → Later s (if b then s else applied s (offset_of s.window.base status.ack) status.nacks)
status-later true s status c = later-same s s refl
status-later false s status c =
    subst (λ (l : Ledger). Grows 0 s.place s.accounts l)
    (sym (ended-accounts (limit_of s (offset_of s.window.base status.ack) status.nacks)
    (stops s (offset_of s.window.base status.ack) status.nacks)
    (read s (offset_of s.window.base status.ack) status.nacks)))
    (from-grows 0 s.place s.accounts 0 (offset_of s.window.base status.ack)
    (named_all s.window.base s.window.slots status.nacks)
    (subst (λ (ks : List Key). Chained 0 ks s.place) (sym (named-keys s.window.base s.window.slots status.nacks))
    c))

pub expiry-accounts : (b : Bool) (s : State) (more : Bool)
    → (if b then ended (expiry_limit s more) false (expired s more) else s).accounts ≡ s.accounts
expiry-accounts false s more = refl
expiry-accounts true s more = ended-accounts (expiry_limit s more) false (expired s more)
    ∙ recalled-accounts (recalled_place s more) (with_owed s)

pub settled-accounts : (b : Bool) (s : State) → (settled_by b s).accounts ≡ s.accounts
settled-accounts true s = refl
settled-accounts false s = refl

-- the places that a call adds
abbrev Adds : State → List ℕ → List ℕ → List ℕ → Type 0
Adds s given given' news = (later : List ℕ)
    × ((given' ++ news ≡ (given ++ s.accounts.news) ++ later) × Between 0 s.place later)

by-later : (s t : State) (given : List ℕ) → Later s t → Adds s given given t.accounts.news
by-later s t given l =
    (l.0, (ap (λ (xs : List ℕ). given ++ xs) l.1.0 ∙ sym (append_assoc given s.accounts.news l.0), l.1.1))

pub after-later : (s : State) (c : Call) (given : List ℕ) → Chains s
    → Adds s given (books_after s c (record { sizes = []; given = given })).given (after s c).accounts.news
unfolding after_status after_expiry
after-later s (Offer sdu) given h =
    by-later s (after s (Offer sdu)) given
    (grows-same 0 s.place s.accounts (after s (Offer sdu)).accounts (omega arith) refl)
after-later s (Take size held more) given h =
    by-later s (after s (Take size held more)) given
    (later-same s (after s (Take size held more)) (turn-accounts (turn s size held more) s size more))
after-later s (Status status) given h =
    by-later s (after s (Status status)) given (status-later (is_ignored s status.ack) s status h)
after-later s Tick given h = by-later s (after s Tick) given (later-same s (after s Tick) refl)
after-later s (Expire more) given h =
    by-later s (after s (Expire more)) given
    (later-same s (after s (Expire more)) (expiry-accounts (runs s.polls.timer) s more))
after-later s (Settle more) given h =
    by-later s (after s (Settle more)) given
    (later-same s (after s (Settle more)) (settled-accounts (settles s more) s))
after-later s Confirm given h =
    ([], (handed given s.accounts.news ∙ sym (append-nil (given ++ s.accounts.news)), omega arith))
