-- The sender gives RLC one more PDU.
use Rattle.std.proofs.Common.{◌≡◌, ◌≢◌, ◌<◌, ◌≤◌, ℕ, suc, zero, ◌+◌, ◌-◌, ◌^◌, Bool, true, false, not, ◌||◌, List, []}
use Rattle.std.proofs.Common.{◌∷◌, ◌++◌, length, drop, map, All, Option, Some, None, slice_get, append_assoc}
use Rattle.std.proofs.Common.{length-append, ⊎_elim, subst, refl, ap, sym, ◌∙◌, arith}
use Rattle.std.specs.Prelude.{◌==◌, ◌&&◌}
use Rattle.std.proofs.lemmas.Bool.Decides.{nat_tests}
use Rattle.std.proofs.lemmas.Bool.{cases_lt}
use Rattle.std.proofs.lemmas.List.{append-nil, take-append-le}
use Rattle.l2_num.specs.Ascending.{AreBetween}
use Rattle.pdcp_pdu.specs.declared.PdcpKind.{PdcpKind}
use Rattle.pdcp_sec.specs.Protection.{Protection}
use Rattle.pdcp_tx_store.specs.declared.given.Sent.{Sent}
use Rattle.pdcp_tx_store.specs.declared.given.Entry.{Entry}
use Rattle.pdcp_tx_store.specs.declared.given.Entry.TheVariants.{Data, Own, Gone}
use Rattle.pdcp_tx_store.specs.Waiting.{Waits}
use Rattle.pdcp_tx_store.specs.Given.{settled, with_entry, data_of, first_unacked}
use Rattle.pdcp_tx.specs.declared.sender.Next.{Next}
use Rattle.pdcp_tx.specs.State.{State, or_else, sent, written}
use Rattle.law_pdcp.specs.OneEnd.Lives.{Names}
use Rattle.law_pdcp.proofs.OneEnd.Naming.{NamesKept, get_more, get_behind, more, each_behind, Is}
use Rattle.law_pdcp.proofs.OneEnd.Thinning.{In, names}
use Rattle.pdcp_rx.specs.State.{State as Receiving}
use Rattle.law_pdcp.specs.AmPair.Flow.{Flow, IsReport}
use Rattle.law_pdcp.proofs.AmPair.Numbers.{among, among_more, between_push, counts, counts_more, again_counts, came}
use Rattle.law_pdcp.proofs.AmPair.Opens.{all_of, is_among, is_among_more, rises, first_rises, first_below, first_end}
use Rattle.law_pdcp.proofs.AmPair.Opens.{trimmed_among}
use Rattle.law_pdcp.proofs.AmPair.Places.{AreAtPlaces, entry_places, settled_places, drop_more}
use Rattle.law_pdcp.proofs.AmPair.Receives.{Receives}
use Rattle.law_pdcp.proofs.OneEnd.Submitting.{AreNonempty}
use Rattle.law_pdcp.proofs.AmPair.Sound.{Sends, IsData, IsWritten, AreWritten, rest, Links, IsTrueReport}
use Rattle.law_pdcp.proofs.AmPair.Sound.{IsSound}

-- ---- lists

pub data_push : (es : List Entry) (e : Entry) (ss : List Sent)
    → data_of (es ++ e ∷ []) ++ ss ≡ data_of es ++ (data_of (e ∷ []) ++ ss)
data_push [] (Data x) ss = refl
data_push [] Own ss = refl
data_push [] Gone ss = refl
data_push (Data x ∷ es) e ss = ap (λ l. x ∷ l) (data_push es e ss)
data_push (Own ∷ es) e ss = data_push es e ss
data_push (Gone ∷ es) e ss = data_push es e ss

pub came_more : (whole : ℕ → Bool) (k : ℕ) (xs ys : List Next) (n : ℕ) → came whole k xs n ≡ true
    → came whole k (xs ++ ys) n ≡ true
came_more whole k [] ys n e = let no : false ≡ true = e in cc
came_more whole k (x ∷ xs) ys n e = let ih = came_more whole (k + 1) xs ys n in grind (arith, nat_tests, ih)

written_more : (first : ℕ) (sdus : List (List ℕ)) (kind : PdcpKind) (p : Protection) (xs : List Next) (x : Next)
    → AreWritten first sdus kind p xs → IsWritten first sdus kind p x.count x.octets
    → AreWritten first sdus kind p (xs ++ x ∷ [])
written_more first sdus kind p [] x h i = (i, tt)
written_more first sdus kind p (y ∷ xs) x h i = (h.0, written_more first sdus kind p xs x h.1 i)

named_more : (first : ℕ) (sdus g : List (List ℕ)) (kind : PdcpKind) (p : Protection) (c : Option ℕ) (octets : List ℕ)
    → IsWritten first sdus kind p c octets → IsWritten first (sdus ++ g) kind p c octets
named_more first sdus g kind p None octets h = h
named_more first sdus g kind p (Some c) octets h =
    record { sdu = h.sdu; named = more first sdus g c h.sdu h.named; some = h.some; is = h.is }

all_named_more : (first : ℕ) (sdus g : List (List ℕ)) (kind : PdcpKind) (p : Protection) (xs : List Next)
    → AreWritten first sdus kind p xs → AreWritten first (sdus ++ g) kind p xs
all_named_more first sdus g kind p [] h = tt
all_named_more first sdus g kind p (x ∷ xs) h =
    (named_more first sdus g kind p x.count x.octets h.0, all_named_more first sdus g kind p xs h.1)

pub some_push : (xs : List (List ℕ)) (x : List ℕ) → AreNonempty xs → x ≢ [] → AreNonempty (xs ++ x ∷ [])
some_push [] x h i = (i, tt)
some_push (y ∷ xs) x h i = (h.0, some_push xs x h.1 i)

some_at : (xs : List (List ℕ)) (k : ℕ) (x : List ℕ) → AreNonempty xs → slice_get xs k ≡ Some x → x ≢ []
some_at [] k x h e = let no : None ≡ Some x = e in cc
some_at (y ∷ xs) zero x h e = let some : Some y ≡ Some x = e in let same : y ≡ x = cc in subst (λ z. z ≢ []) same h.0
some_at (y ∷ xs) (suc k) x h e = some_at xs k x h.1 e

-- ---- the whole, over one more PDU

-- what the sender's step has to show
pub by_parts : (bits : ℕ) (f : Flow) (s : State) (sdus : List (List ℕ)) (o : Next) → IsSound bits f
    → Sends bits f.first sdus s
    → Links bits f.first sdus s f.handed f.whole f.passed (drop f.passed f.stream ++ o ∷ [])
    → Receives f.first sdus f.handed f.up f.receiver → AreAtPlaces s.given (f.stream ++ o ∷ [])
    → f.sender.protection ≡ s.protection → IsTrueReport f.report f.first f.handed s
    → IsSound bits (record f { sender = s; sdus = sdus; stream = f.stream ++ o ∷ [] })
by_parts bits f s sdus o h sends links receives places key told = record {
  width = h.width;
  sends = sends;
  links = subst (Links bits f.first sdus s f.handed f.whole f.passed) (sym (drop_more f.passed f.stream o h.few)) links;
  receives = receives;
  hears_am = h.hears_am;
  key = h.key ∙ key;
  places = places;
  few = omega (arith, h.few, length-append f.stream (o ∷ []));
  passed =
      λ n e. h.passed n (subst (λ l. among (counts l) n ≡ true) (take-append-le f.passed f.stream (o ∷ []) h.few) e);
  told = told;
}

-- ---- the own report

abbrev pub without_report : State → State
without_report s = record s { owed = None; given = with_entry s.given Own }

own_links : (bits first : ℕ) (sdus : List (List ℕ)) (s : State) (handed whole : ℕ
    → Bool) (k : ℕ) (pdus : List Next) (report : List ℕ) → IsReport s.kind report
    → Links bits first sdus s handed whole k pdus
    → Links bits first sdus (without_report s) handed whole k (pdus ++ written s.kind s.protection None report ∷ [])
own_links bits first sdus s handed whole k pdus report is h =
    let o : Next = written s.kind s.protection None report in
    let same : counts (pdus ++ o ∷ []) ≡ counts pdus = counts_more pdus (o ∷ []) ∙ append-nil (counts pdus) in
    let line : rest (pdus ++ o ∷ []) s ≡ rest pdus s = ap (λ l. l ++ again_counts s.again) same in
    let all : all_of (without_report s) ≡ all_of s = data_push s.given.entries Own s.again in
    let grows : (n : ℕ) → came whole k pdus n ≡ true → came whole k (pdus ++ o ∷ []) n ≡ true =
    λ n. came_more whole k pdus (o ∷ []) n in
    record {
      within = h.within;
      order = subst (λ l. AreBetween 0 l s.next) (sym line) h.order;
      covered = λ n a b. subst (λ l. handed n || among l n ≡ true) (sym line) (h.covered n a b);
      opens = λ n a b. subst (λ l. (handed n || came whole k (pdus ++ o ∷ []) n) || is_among l n ≡ true) (sym all)
          (grind (arith, nat_tests, h.opens n a b, grows n));
      floor = λ n a b. grind (arith, nat_tests, h.floor n a b, grows n);
      late = λ n c e i. h.late n c e (subst (λ l. among l c ≡ true) line i);
      written = written_more first sdus s.kind s.protection pdus o h.written is;
    }

own_sends : (bits first : ℕ) (sdus : List (List ℕ)) (s : State) → NamesKept first sdus (without_report s)
    → In 0 (names (all_of (without_report s))) s.next → Sends bits first sdus s
    → Sends bits first sdus (without_report s)
own_sends bits first sdus s kept order h =
    let all : all_of (without_report s) ≡ all_of s = data_push s.given.entries Own s.again in
    record {
      am = h.am;
      room = h.room;
      some = h.some;
      waits_some = h.waits_some;
      owes = tt;
      kept = kept;
      order = order;
      near = h.near;
      lag = subst (λ l. s.bound ≤ or_else (first_unacked l) s.next + 2 ^ (bits - 1)) (sym all) h.lag;
    }

pub own_sound : (bits : ℕ) (f : Flow) (report : List ℕ) → IsReport f.sender.kind report
    → NamesKept f.first f.sdus (without_report f.sender) → In 0 (names (all_of (without_report f.sender))) f.sender.next
    → IsSound bits f
    → IsSound bits (record f {
      sender = without_report f.sender;
      stream = f.stream ++ written f.sender.kind f.sender.protection None report ∷ [];
    })
own_sound bits f report is kept order h =
    by_parts bits f (without_report f.sender) f.sdus (written f.sender.kind f.sender.protection None report) h
    (own_sends bits f.first f.sdus f.sender kept order h.sends)
    (own_links bits f.first f.sdus f.sender f.handed f.whole f.passed (drop f.passed f.stream) report is h.links)
    h.receives
    (entry_places f.sender.given f.stream Own (written f.sender.kind f.sender.protection None report) h.places refl)
    refl h.told

-- ---- one that is given again

abbrev pub without_first : State → Sent → List Sent → State
without_first s x xs = record s { again = xs; given = settled (with_entry s.given (Data x)) }

again_line : (pdus : List Next) (s : State) (x : Sent) (xs : List Sent) → s.again ≡ x ∷ xs
    → rest (pdus ++ written s.kind s.protection (Some x.count) x.octets ∷ []) (without_first s x xs) ≡ rest pdus s
again_line pdus s x xs e =
    let line : counts (pdus ++ written s.kind s.protection (Some x.count) x.octets ∷ [])
    ≡ counts pdus ++ x.count ∷ [] = counts_more pdus (written s.kind s.protection (Some x.count) x.octets ∷ []) in
    ap (λ l. l ++ again_counts xs) line ∙ append_assoc (counts pdus) (x.count ∷ []) (again_counts xs)
    ∙ ap (λ l. counts pdus ++ again_counts l) (sym e)

again_all : (s : State) (x : Sent) (xs : List Sent) (n : ℕ) → s.again ≡ x ∷ xs
    → is_among (all_of (without_first s x xs)) n ≡ is_among (all_of s) n
again_all s x xs n e = trimmed_among (s.given.entries ++ Data x ∷ []) xs n
    ∙ ap (λ l. is_among l n) (data_push s.given.entries (Data x) xs ∙ ap (λ l. data_of s.given.entries ++ l) (sym e))

again_links : (bits first : ℕ) (sdus : List (List ℕ)) (s : State) (handed whole : ℕ
    → Bool) (k : ℕ) (pdus : List Next) (x : Sent) (xs : List Sent) → s.again ≡ x ∷ xs
    → IsData first sdus s.kind s.protection x.count (written s.kind s.protection (Some x.count) x.octets).octets
    → Links bits first sdus s handed whole k pdus
    → Links bits first sdus (without_first s x xs) handed whole k
    (pdus ++ written s.kind s.protection (Some x.count) x.octets ∷ [])
again_links bits first sdus s handed whole k pdus x xs e is h =
    let o : Next = written s.kind s.protection (Some x.count) x.octets in
    let line : rest (pdus ++ o ∷ []) (without_first s x xs) ≡ rest pdus s = again_line pdus s x xs e in
    let grows : (n : ℕ) → came whole k pdus n ≡ true → came whole k (pdus ++ o ∷ []) n ≡ true =
    λ n. came_more whole k pdus (o ∷ []) n in
    record {
      within = h.within;
      order = subst (λ l. AreBetween 0 l s.next) (sym line) h.order;
      covered = λ n a b. subst (λ l. handed n || among l n ≡ true) (sym line) (h.covered n a b);
      opens = λ n a b. subst (λ q. (handed n || came whole k (pdus ++ o ∷ []) n) || q ≡ true)
          (sym (again_all s x xs n e)) (grind (arith, nat_tests, h.opens n a b, grows n));
      floor = λ n a b. grind (arith, nat_tests, h.floor n a b, grows n);
      late = λ n c q i. h.late n c q (subst (λ l. among l c ≡ true) line i);
      written = written_more first sdus s.kind s.protection pdus o h.written is;
    }

again_sends : (bits first : ℕ) (sdus : List (List ℕ)) (s : State) (x : Sent) (xs : List Sent) → s.again ≡ x ∷ xs
    → NamesKept first sdus (without_first s x xs) → In 0 (names (all_of (without_first s x xs))) s.next
    → Sends bits first sdus s
    → Sends bits first sdus (without_first s x xs)
again_sends bits first sdus s x xs e kept order h = record {
  am = h.am;
  room = h.room;
  some = h.some;
  waits_some = h.waits_some;
  owes = h.owes;
  kept = kept;
  order = order;
  near = h.near;
  lag =
      omega (
        arith,
        h.lag,
        first_rises (all_of s) (all_of (without_first s x xs)) s.next h.order (λ n q. sym (again_all s x xs n e) ∙ q),
      );
}

pub again_sound : (bits : ℕ) (f : Flow) (x : Sent) (xs : List Sent) → f.sender.again ≡ x ∷ xs
    → NamesKept f.first f.sdus (without_first f.sender x xs)
    → In 0 (names (all_of (without_first f.sender x xs))) f.sender.next → IsSound bits f
    → IsSound bits (record f {
      sender = without_first f.sender x xs;
      stream = f.stream ++ written f.sender.kind f.sender.protection (Some x.count) x.octets ∷ [];
    })
again_sound bits f x xs e kept order h =
    let named : Names f.first f.sdus x.count x.octets =
    each_behind (Is f.first f.sdus) (data_of f.sender.given.entries) x xs
    (subst (λ l. All (Is f.first f.sdus) (names (data_of f.sender.given.entries ++ l))) e h.sends.kept.each) in
    by_parts bits f (without_first f.sender x xs) f.sdus
    (written f.sender.kind f.sender.protection (Some x.count) x.octets) h
    (again_sends bits f.first f.sdus f.sender x xs e kept order h.sends)
    (again_links bits f.first f.sdus f.sender f.handed f.whole f.passed (drop f.passed f.stream) x xs e
    (record {
      sdu = x.octets;
      named = named;
      some = some_at f.sdus (x.count - f.first) x.octets h.sends.some named.1;
      is = refl;
    }) h.links) h.receives
    (settled_places (with_entry f.sender.given (Data x))
    (f.stream ++ written f.sender.kind f.sender.protection (Some x.count) x.octets ∷ [])
    (entry_places f.sender.given f.stream (Data x) (written f.sender.kind f.sender.protection (Some x.count) x.octets)
    h.places refl)) refl h.told

-- ---- a new one

abbrev pub with_new : State → List ℕ → State
with_new s sdu = record s {
  waiting = drop 1 s.waiting;
  next = s.next + 1;
  given = with_entry s.given (Data (sent s.next sdu false));
}

new_line : (pdus : List Next) (s : State) (sdu : List ℕ) → s.again ≡ []
    → rest (pdus ++ written s.kind s.protection (Some s.next) sdu ∷ []) (with_new s sdu) ≡ rest pdus s ++ s.next ∷ []
new_line pdus s sdu e =
    let line : counts (pdus ++ written s.kind s.protection (Some s.next) sdu ∷ []) ≡ counts pdus ++ s.next ∷ [] =
    counts_more pdus (written s.kind s.protection (Some s.next) sdu ∷ []) in
    let none : (l : List ℕ) → l ++ again_counts s.again ≡ l = λ l. ap (λ ss. l ++ again_counts ss) e ∙ append-nil l in
    none (counts (pdus ++ written s.kind s.protection (Some s.next) sdu ∷ [])) ∙ line
    ∙ ap (λ l. l ++ s.next ∷ []) (sym (none (counts pdus)))

new_all : (s : State) (sdu : List ℕ) (n : ℕ) → s.again ≡ []
    → is_among (all_of (with_new s sdu)) n ≡ is_among (all_of s) n || n == s.next
new_all s sdu n e =
    ap (λ l. is_among l n) (data_push s.given.entries (Data (sent s.next sdu false)) s.again)
    ∙ is_among_more (data_of s.given.entries) (sent s.next sdu false ∷ s.again) n
    ∙ ap (λ ss. is_among (data_of s.given.entries) n || is_among (sent s.next sdu false ∷ ss) n) e
    ∙ alone (is_among (data_of s.given.entries) n) (n == s.next)
    ∙ ap (λ l. is_among l n || n == s.next) (sym (append-nil (data_of s.given.entries))
    ∙ ap (λ ss. data_of s.given.entries ++ ss) (sym e))
  where
    alone : (a b : Bool) → a || ((b && not false) || false) ≡ a || b
    alone true b = refl
    alone false true = refl
    alone false false = refl

new_links : (bits first : ℕ) (sdus : List (List ℕ)) (s : State) (handed whole : ℕ
    → Bool) (k : ℕ) (pdus : List Next) (sdu : List ℕ) → s.again ≡ []
    → IsData first (sdus ++ sdu ∷ []) s.kind s.protection s.next
    (written s.kind s.protection (Some s.next) sdu).octets → Links bits first sdus s handed whole k pdus
    → Links bits first (sdus ++ sdu ∷ []) (with_new s sdu) handed whole k
    (pdus ++ written s.kind s.protection (Some s.next) sdu ∷ [])
new_links bits first sdus s handed whole k pdus sdu e is h =
    let o : Next = written s.kind s.protection (Some s.next) sdu in
    let line : rest (pdus ++ o ∷ []) (with_new s sdu) ≡ rest pdus s ++ s.next ∷ [] = new_line pdus s sdu e in
    let split : (n : ℕ) → among (rest (pdus ++ o ∷ []) (with_new s sdu)) n ≡ among (rest pdus s) n
    || among (s.next ∷ []) n = λ n. ap (λ l. among l n) line ∙ among_more (rest pdus s) (s.next ∷ []) n in
    let grows : (n : ℕ) → came whole k pdus n ≡ true → came whole k (pdus ++ o ∷ []) n ≡ true =
    λ n. came_more whole k pdus (o ∷ []) n in
    record {
      within = λ n q. let w = h.within n q in (w.0, omega (arith, w.1));
      order = subst (λ l. AreBetween 0 l (s.next + 1)) (sym line) (between_push 0 (rest pdus s) s.next h.order);
      covered = λ n a b. grind (arith, nat_tests, h.covered n a, split n);
      opens = λ n a b. grind (arith, nat_tests, h.opens n a, new_all s sdu n e, grows n);
      floor = λ n a b. grind (arith, nat_tests, h.floor n a b, grows n);
      late = λ n c q i. grind (arith, nat_tests, h.late n c q, split c, h.within n q);
      written = written_more first (sdus ++ sdu ∷ []) s.kind s.protection pdus o
          (all_named_more first sdus (sdu ∷ []) s.kind s.protection pdus h.written) is;
    }

queue_drop : (ws : List Waits) → AreNonempty (map (λ w. w.sdu) ws) → AreNonempty (map (λ w. w.sdu) (drop 1 ws))
queue_drop [] h = h
queue_drop (w ∷ ws) h = h.1

new_sends : (bits first : ℕ) (sdus : List (List ℕ)) (s : State) (sdu : List ℕ) → s.again ≡ [] → sdu ≢ []
    → 0 < length s.waiting → s.next < s.bound → NamesKept first (sdus ++ sdu ∷ []) (with_new s sdu)
    → In 0 (names (all_of (with_new s sdu))) (s.next + 1) → Sends bits first sdus s
    → Sends bits first (sdus ++ sdu ∷ []) (with_new s sdu)
new_sends bits first sdus s sdu e some' waits lt kept order h =
    let low = or_else (first_unacked (all_of s)) s.next in
    let last : low ≤ s.next = first_end 0 (all_of s) s.next h.order in
    let lag : low ≤ or_else (first_unacked (all_of (with_new s sdu))) (s.next + 1) =
    rises (all_of (with_new s sdu)) (s.next + 1) low (omega (arith, last))
    (λ n q. grind (arith, nat_tests, new_all s sdu n e, first_below 0 (all_of s) s.next n h.order, last)) in
    record {
      am = h.am;
      room = omega (arith, h.room, waits, one_less s.waiting);
      some = some_push sdus sdu h.some some';
      waits_some = queue_drop s.waiting h.waits_some;
      owes = h.owes;
      kept = kept;
      order = order;
      near = omega (arith, lt);
      lag = omega (arith, h.lag, lag);
    }
  where
    one_less : (ws : List Waits) → length (drop 1 ws) ≡ length ws - 1
    one_less [] = refl
    one_less (w ∷ ws) = omega arith

-- the SDUs taken are more: what has come stays as it is
more_receives : (first : ℕ) (sdus : List (List ℕ)) (sdu : List ℕ) (handed : ℕ
    → Bool) (up : List (List ℕ)) (r : Receiving) → r.next - first ≤ length sdus → Receives first sdus handed up r
    → Receives first (sdus ++ sdu ∷ []) handed up r
more_receives first sdus sdu handed up r le h = record {
  least = h.least;
  held_is = h.held_is;
  sdu_is = λ k x e. get_more sdus (sdu ∷ []) (r.next + k - first) x (h.sdu_is k x e);
  up_is = h.up_is ∙ sym (take-append-le (r.next - first) sdus (sdu ∷ []) le);
  ends = h.ends;
}

pub few_next : (first : ℕ) (sdus : List (List ℕ)) (handed : ℕ → Bool) (up : List (List ℕ)) (r : Receiving) (next : ℕ)
    → first + length sdus ≡ next → ((n : ℕ) → handed n ≡ true → (first ≤ n) × (n < next))
    → Receives first sdus handed up r → r.next ≤ next
few_next first sdus handed up r next e within h = ⊎_elim
    (λ (l : r.next < first + 1). omega (arith, e))
    (λ (l : first + 1 ≤ r.next). let u =
    within (r.next - 1) (h.least.before (r.next - 1) (omega arith) (omega arith)) in omega (arith, u.1))
    (cases_lt r.next (first + 1))

-- the receiver goes no further than the sender
pub receiver_below : (bits : ℕ) (f : Flow) → IsSound bits f → f.receiver.next ≤ f.sender.next
receiver_below bits f h =
    few_next f.first f.sdus f.handed f.up f.receiver f.sender.next h.sends.kept.next h.links.within h.receives

pub new_sound : (bits : ℕ) (f : Flow) (sdu : List ℕ) → f.sender.again ≡ [] → sdu ≢ [] → 0 < length f.sender.waiting
    → f.sender.next < f.sender.bound → NamesKept f.first (f.sdus ++ sdu ∷ []) (with_new f.sender sdu)
    → In 0 (names (all_of (with_new f.sender sdu))) (f.sender.next + 1) → IsSound bits f
    → IsSound bits (record f {
      sender = with_new f.sender sdu;
      sdus = f.sdus ++ sdu ∷ [];
      stream = f.stream ++ written f.sender.kind f.sender.protection (Some f.sender.next) sdu ∷ [];
    })
new_sound bits f sdu e some' waits lt kept order h =
    let at : f.sender.next - f.first ≡ length f.sdus = omega (arith, h.sends.kept.next) in
    let named : Names f.first (f.sdus ++ sdu ∷ []) f.sender.next sdu =
    (omega (arith, h.sends.kept.next), get_behind f.sdus (f.sender.next - f.first) sdu at) in
    by_parts bits f (with_new f.sender sdu) (f.sdus ++ sdu ∷ [])
    (written f.sender.kind f.sender.protection (Some f.sender.next) sdu) h
    (new_sends bits f.first f.sdus f.sender sdu e some' waits lt kept order h.sends)
    (new_links bits f.first f.sdus f.sender f.handed f.whole f.passed (drop f.passed f.stream) sdu e
    (record { sdu = sdu; named = named; some = some'; is = refl }) h.links)
    (more_receives f.first f.sdus sdu f.handed f.up f.receiver
    (omega (arith, receiver_below bits f h, h.sends.kept.next)) h.receives)
    (entry_places f.sender.given f.stream (Data (sent f.sender.next sdu false))
    (written f.sender.kind f.sender.protection (Some f.sender.next) sdu) h.places refl) refl h.told
