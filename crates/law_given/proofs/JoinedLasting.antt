-- In a life nothing that has come is lost, by what is told.
use Rattle.std.proofs.Common.{◌≡◌, ◌<◌, ◌≤◌, ℕ, zero, suc, ◌+◌, ◌==◌, ◌%◌, nat_lt, nat_le, Bool, true, false, ◌&&◌}
use Rattle.std.proofs.Common.{◌||◌, if◌then◌else◌}
use Rattle.std.proofs.Common.{List, [], ◌∷◌, ◌++◌, map, length, slice_index, slice_get, Option, Some, None, Result, Ok}
use Rattle.std.proofs.Common.{Err}
use Rattle.std.proofs.Common.{append-nil, append_assoc, length-append, ⊎_elim, refl, ap, sym, subst, ◌∙◌, arith}
use Rattle.std.specs.List.{AllByRecursion, flat_map}
use Rattle.std.proofs.lemmas.Bool.Decides.{nat_tests}
use Rattle.std.proofs.lemmas.Bool.{and_parts, cases_lt}
use Rattle.std.proofs.lemmas.List.{map-append}
use Rattle.bearer_types.specs.Sides.{other, sent_by}
use Rattle.bearer_types.specs.declared.config.BearerConfig.{BearerConfig}
use Rattle.eps_sec.specs.declared.Keys.{Keys}
use Rattle.l2_node.specs.End.{End}
use Rattle.l2_num.specs.Least.{IsLeast}
use Rattle.l2_types.specs.declared.side.Side.{Side}
use Rattle.l2_types.specs.declared.side.Side.TheVariants.{Nb, Ue}
use Rattle.rlc_am_rx_window.specs.Piece.{octets_in}
use Rattle.rlc_pdu.specs.Pdus.{AcknowledgedPdu, AmdPdu, Payload, Status}
use Rattle.rlc_pdu.specs.Reading.{am_at}
use Rattle.rlc_pdu.specs.declared.constants.TheConstants.{AM_MODULUS}
use Rattle.rlc_pdu.specs.declared.fault.RlcRefusal.{RlcRefusal}
use Rattle.promises.specs.Events.{told_on as told_on_channel}
use Rattle.promises.specs.Given.{given_in, entries_of, entries_passed}
use Rattle.promises.specs.Pdus.{carried}
use Rattle.law_words.specs.Arrivals.{AccountEntry, Gives, Passes, Renews, Account, Given, no_account, account}
use Rattle.law_words.specs.Arrivals.{accounted}
use Rattle.law_words.specs.Arrivals.{has_place, has_come, is_count, sequence_in}
use Rattle.law_words.specs.Passing.{Passing, Writes, Comes, Told, with_field, with_stretch, written_as, come_as}
use Rattle.law_words.specs.Passing.{stretch_of, with_passing}
use Rattle.law_words.specs.Stretches.{Stretch, place_of, covers, octet_has_come, all_from, has_arrived}
use Rattle.law_node.specs.Bearers.{keys_in}
use Rattle.law_node.specs.Calls.{Call, SetVisits, SetReports, Add, Submit, SetDiscard, Tick, TickBuckets, Visits}
use Rattle.law_node.specs.Calls.{Grants}
use Rattle.law_node.specs.Calls.{Granted, Assigned, Pass, Receive, Expire, Move, after}
use Rattle.law_node.specs.Telling.{told_of}
use Rattle.law_deliver.specs.AmFlow.Air.{Air, Block, Station, Act, Calls, Comes as BlockComes, Goes, Step, AtNb, AtUe}
use Rattle.law_deliver.specs.AmFlow.Air.{Passes as TtiPasses, IsDone, IsGiven, outset}
use Rattle.law_deliver.specs.AmChannel.Arrival.{built_in, said_in, heard_in, said_over, heard_over, happens_in}
use Rattle.law_deliver.specs.AmChannel.Arrival.{happened, told_from}
use Rattle.law_deliver.specs.AmChannel.Delivery.{AmEndsBeginAlike}
use Rattle.law_deliver.specs.AmChannel.Lives.{AirStep, InLife, AreLiving, IsLiving, lives, lives_on, end_at, brought}
use Rattle.law_deliver.specs.AmChannel.Lives.{calls_by, calls_at}
use Rattle.law_deliver.proofs.AmChannel.Ends.{all_more}
use Rattle.law_given.specs.Joined.{pdcp, gives, AreJoined, GoesOnInLife}
use Rattle.law_given.proofs.JoinedReports.{first_in}
use Rattle.law_given.proofs.JoinedSteps.{told_on}

-- ---- octets that have come

-- of numbers whose data fields are told, or the next one
abbrev IsInOrder : Told → Type 0
IsInOrder t = AllByRecursion (λ (s : Stretch). s.number ≤ length t.fields) t.came

place_stays : (xs ys : List ℕ) (n : ℕ) → n ≤ length xs → place_of (xs ++ ys) n ≡ place_of xs n
place_stays [] [] zero le = refl
place_stays [] (y ∷ ys) zero le = refl
place_stays [] ys (suc n) le = absurd (omega (arith, le))
place_stays (x ∷ xs) ys zero le = refl
place_stays (x ∷ xs) ys (suc n) le = ap (λ (m : ℕ). x + m) (place_stays xs ys n (omega (arith, le)))

index_stays : (xs ys : List ℕ) (k : ℕ) → k < length xs → slice_index (xs ++ ys) k ≡ slice_index xs k
index_stays [] ys k lt = absurd (omega (arith, lt))
index_stays (x ∷ xs) ys zero lt = refl
index_stays (x ∷ xs) ys (suc k) lt = index_stays xs ys k (omega (arith, lt))

octet_stays : (fields : List ℕ) (n : ℕ) (came : List Stretch) (q : ℕ)
    → AllByRecursion (λ (s : Stretch). s.number ≤ length fields) came
    → octet_has_come (fields ++ n ∷ []) came q ≡ octet_has_come fields came q
octet_stays fields n [] q h = refl
octet_stays fields n (s ∷ came) q h =
    let rest = octet_has_come (fields ++ n ∷ []) came q in
    ap (λ (m : ℕ). (nat_le (m + s.from) q && nat_lt q (m + s.from + s.size)) || rest)
    (place_stays fields (n ∷ []) s.number h.0)
    ∙ ap (λ (b : Bool). covers fields s q || b) (octet_stays fields n came q h.1)

more_fields : (fields : List ℕ) (n : ℕ) (came : List Stretch)
    → AllByRecursion (λ (s : Stretch). s.number ≤ length fields) came
    → AllByRecursion (λ (s : Stretch). s.number ≤ length (fields ++ n ∷ [])) came
more_fields fields n [] h = tt
more_fields fields n (s ∷ came) h =
    let l = length-append fields (n ∷ []) in (omega (arith, h.0, l), more_fields fields n came h.1)

-- as a PDU passes
record Lets (t u : Told) : Type 0 where
  order : IsInOrder u
  octets : (q : ℕ) → octet_has_come t.fields t.came q ≡ true → octet_has_come u.fields u.came q ≡ true

lets_be : (t : Told) → IsInOrder t → Lets t t
lets_be t h = record { order = h; octets = λ q e. e }

field_lets : (pdu : AmdPdu) (t : Told) → IsInOrder t → Lets t (with_field pdu t)
field_lets pdu t h = by (pdu.sn == length t.fields % AM_MODULUS)
  where
    n : ℕ
    n = octets_in pdu.elements

    by : (b : Bool) → Lets t (if b then record t { fields = t.fields ++ n ∷ [] } else t)
    by true = record {
      order = more_fields t.fields n t.came h;
      octets = λ q e. octet_stays t.fields n t.came q h ∙ e;
    }
    by false = lets_be t h

stretch_lets : (pdu : AmdPdu) (t : Told) → IsInOrder t → Lets t (with_stretch pdu t)
stretch_lets pdu t h = record {
  order = (omega arith, h);
  octets = λ q e. or_second (covers t.fields (stretch_of pdu (length t.fields)) q)
      (octet_has_come t.fields t.came q) e;
}
  where
    or_second : (a b : Bool) → b ≡ true → a || b ≡ true
    or_second true b e = refl
    or_second false b e = e

written_lets : (r : Result AcknowledgedPdu RlcRefusal) (t : Told) → IsInOrder t → Lets t (written_as r t)
written_lets (Ok (Payload pdu)) t h = field_lets pdu t h
written_lets (Ok (Status pdu)) t h = lets_be t h
written_lets (Err refused) t h = lets_be t h

come_lets : (r : Result AcknowledgedPdu RlcRefusal) (t : Told) → IsInOrder t → Lets t (come_as r t)
come_lets (Ok (Payload pdu)) t h = stretch_lets pdu t h
come_lets (Ok (Status pdu)) t h = lets_be t h
come_lets (Err refused) t h = lets_be t h

passing_lets : (p : Passing) (t : Told) → IsInOrder t → Lets t (with_passing p t)
passing_lets (Writes octets) t h = written_lets (am_at octets) t h
passing_lets (Comes octets) t h = come_lets (am_at octets) t h

-- ---- SDUs that have come

all_stay : (p q : ℕ → Bool) → ((n : ℕ) → p n ≡ true → q n ≡ true) → (from n : ℕ) → all_from p from n ≡ true
    → all_from q from n ≡ true
all_stay p q more from zero e = refl
all_stay p q more from (suc n) e =
    let parts = and_parts (p from) (all_from p (from + 1) n) e in
    both (q from) (all_from q (from + 1) n) (more from parts.0) (all_stay p q more (from + 1) n parts.1)
  where
    both : (a b : Bool) → a ≡ true → b ≡ true → a && b ≡ true
    both a b e f = cc

arrived_stays : (sizes : List ℕ) (t u : Told) (k : ℕ) → Lets t u → has_arrived sizes t.fields t.came k ≡ true
    → has_arrived sizes u.fields u.came k ≡ true
arrived_stays sizes t u k h e =
    let p = octet_has_come t.fields t.came in
    let parts = and_parts (nat_lt k (length sizes)) (all_from p (place_of sizes k) (slice_index sizes k)) e in
    ap (λ (b : Bool). b && all_from (octet_has_come u.fields u.came) (place_of sizes k) (slice_index sizes k)) parts.0
    ∙ all_stay p (octet_has_come u.fields u.came) h.octets (place_of sizes k) (slice_index sizes k) parts.1

arrived_more : (sizes : List ℕ) (size : ℕ) (t : Told) (k : ℕ) → has_arrived sizes t.fields t.came k ≡ true
    → has_arrived (sizes ++ size ∷ []) t.fields t.came k ≡ true
arrived_more sizes size t k e =
    let all = sizes ++ size ∷ [] in
    let p = octet_has_come t.fields t.came in
    let parts = and_parts (nat_lt k (length sizes)) (all_from p (place_of sizes k) (slice_index sizes k)) e in
    let l = length-append sizes (size ∷ []) in
    let lt : k < length sizes = grind (arith, nat_tests, parts.0) in
    let here : nat_lt k (length all) ≡ true = grind (arith, nat_tests, lt, l) in
    ap (λ (b : Bool). b && all_from p (place_of all k) (slice_index all k)) here
    ∙ ap (λ (n : ℕ). all_from p n (slice_index all k)) (place_stays sizes (size ∷ []) k (omega (arith, lt)))
    ∙ ap (all_from p (place_of sizes k)) (index_stays sizes (size ∷ []) k lt)
    ∙ parts.1

sequence_stays : (p q : ℕ → Bool) → ((n : ℕ) → p n ≡ true → q n ≡ true) → (k : ℕ) (gs more : List Given) (count : ℕ)
    → sequence_in p k gs count ≡ true → sequence_in q k (gs ++ more) count ≡ true
sequence_stays p q h k [] more count e = let no : false ≡ true = e in cc
sequence_stays p q h k (g ∷ gs) more count e =
    by (p k) (q k) (is_count g.count count) (sequence_in p (k + 1) gs count) (sequence_in q (k + 1) (gs ++ more) count)
    (h k) (sequence_stays p q h (k + 1) gs more count) e
  where
    by : (a b c d e : Bool) → (a ≡ true → b ≡ true) → (d ≡ true → e ≡ true) → a && (c || d) ≡ true
        → b && (c || e) ≡ true
    by a b c d e f g q = grind (arith, nat_tests, f, g, q)

-- ---- an account in a life

abbrev IsInLife : AccountEntry → Type 0
IsInLife (Gives g) = Unit {0}
IsInLife (Passes p) = Unit {0}
IsInLife Renews = ⊥

record Lasts (a b : Account) (more : List Given) : Type 0 where
  given : b.given ≡ a.given ++ more
  ended : (count : ℕ) → b.ended count ≡ a.ended count
  places : (k : ℕ) → has_place a k ≡ true → has_place b k ≡ true

lasts : (hs : List AccountEntry) (a : Account) → AllByRecursion IsInLife hs → IsInOrder a.rlc
    → Lasts a (account hs a) (gives hs)
lasts [] a h o = record { given = sym (append-nil a.given); ended = λ count. refl; places = λ k e. e }
lasts (Gives g ∷ hs) a h o =
    let b = accounted (Gives g) a in
    let rest = lasts hs b h.1 o in
    let size = λ (x : Given). x.size in
    record {
      given = rest.given ∙ append_assoc a.given (g ∷ []) (gives hs);
      ended = rest.ended;
      places = λ k e.
          rest.places k
          (ap (λ (l : List ℕ). has_arrived l a.rlc.fields a.rlc.came k) (map-append size a.given (g ∷ []))
          ∙ arrived_more (map size a.given) g.size a.rlc k e);
    }
lasts (Passes p ∷ hs) a h o =
    let b = accounted (Passes p) a in
    let one = passing_lets p a.rlc o in
    let rest = lasts hs b h.1 one.order in
    record {
      given = rest.given;
      ended = rest.ended;
      places = λ k e. rest.places k
          (arrived_stays (map (λ (x : Given). x.size) a.given) a.rlc (with_passing p a.rlc) k one e);
    }
lasts (Renews ∷ hs) a h o = absurd h.0

in_order : (hs : List AccountEntry) (a : Account) → IsInOrder a.rlc → IsInOrder (account hs a).rlc
in_order [] a o = o
in_order (Gives g ∷ hs) a o = in_order hs (accounted (Gives g) a) o
in_order (Passes p ∷ hs) a o = in_order hs (accounted (Passes p) a) (passing_lets p a.rlc o).order
in_order (Renews ∷ hs) a o = in_order hs (accounted Renews a) tt

come_stays : (a b : Account) (more : List Given) (count : ℕ) → Lasts a b more → has_come a count ≡ true
    → has_come b count ≡ true
come_stays a b more count h e =
    ap (λ (gs : List Given). b.ended count || sequence_in (has_place b) 0 gs count) h.given
    ∙ by (a.ended count) (b.ended count) (sequence_in (has_place a) 0 a.given count)
    (sequence_in (has_place b) 0 (a.given ++ more) count) (h.ended count)
    (sequence_stays (has_place a) (has_place b) h.places 0 a.given more count) e
  where
    by : (a b c d : Bool) → b ≡ a → (c ≡ true → d ≡ true) → a || c ≡ true → b || d ≡ true
    by a b c d q f e = grind (arith, nat_tests, q, f, e)

passed_stays : (a b : Account) (more : List Given) (p q : ℕ) → Lasts a b more → IsLeast (has_place a) 0 p
    → IsLeast (has_place b) 0 q
    → p ≤ q
passed_stays a b more p q h i j = ⊎_elim
    (λ (lt : q < p).
    let yes = h.places q (i.before q (omega arith) lt) in
    let no = j.refused in
    let wrong : true ≡ false = sym yes ∙ no in absurd cc)
    (λ (le : p ≤ q). le)
    (cases_lt q p)

-- ---- no life begins in a step of a life

given_in_life : (gs : List Given) → AllByRecursion IsInLife (entries_of gs)
given_in_life [] = tt
given_in_life (g ∷ gs) = (tt, given_in_life gs)

passed_in_life : (ps : List Passing) → AllByRecursion IsInLife (entries_passed ps)
passed_in_life [] = tt
passed_in_life (p ∷ ps) = (tt, passed_in_life ps)

said_in_life : (bits l : ℕ) (e : End) (c : Call) → keys_in c ≡ [] → AllByRecursion IsInLife (said_in bits l e c)
said_in_life bits l e (SetVisits maximum) q = tt
said_in_life bits l e (SetReports reports) q = tt
said_in_life bits l e (Add config keys) q = tt
said_in_life bits l e (Submit lcid octets) q = tt
said_in_life bits l e (SetDiscard lcid ttis) q = tt
said_in_life bits l e Tick q = tt
said_in_life bits l e TickBuckets q = tt
said_in_life bits l e (Visits t) q =
    let gs = flat_map (given_in bits) (told_on_channel l (told_of e (Visits t))) in
    let ps = map (λ pdu. Writes pdu) (flat_map (carried l (sent_by e.side)) (built_in e (Visits t))) in
    all_more IsInLife (entries_of gs) (entries_passed ps) (given_in_life gs) (passed_in_life ps)
said_in_life bits l e (Grants tti) q = tt
said_in_life bits l e (Granted tti good) q = tt
said_in_life bits l e (Assigned tti ndi good) q = tt
said_in_life bits l e (Pass tti) q = tt
said_in_life bits l e (Receive block) q = tt
said_in_life bits l e (Expire lcid clock) q = tt
said_in_life bits l e (Move keys) q = cc

heard_in_life : (l : ℕ) (e : End) (c : Call) → AllByRecursion IsInLife (heard_in l e c)
heard_in_life l e (SetVisits maximum) = tt
heard_in_life l e (SetReports reports) = tt
heard_in_life l e (Add config keys) = tt
heard_in_life l e (Submit lcid octets) = tt
heard_in_life l e (SetDiscard lcid ttis) = tt
heard_in_life l e Tick = tt
heard_in_life l e TickBuckets = tt
heard_in_life l e (Visits t) = tt
heard_in_life l e (Grants tti) = tt
heard_in_life l e (Granted tti good) = tt
heard_in_life l e (Assigned tti ndi good) = tt
heard_in_life l e (Pass tti) = tt
heard_in_life l e (Receive block) = passed_in_life _
heard_in_life l e (Expire lcid clock) = tt
heard_in_life l e (Move keys) = tt

abbrev MovesNone : List Call → Type 0
MovesNone cs = AllByRecursion (λ (c : Call). keys_in c ≡ []) cs

all_said : (bits l : ℕ) (cs : List Call) (e : End) → MovesNone cs → AllByRecursion IsInLife (said_over bits l cs e)
all_said bits l [] e h = tt
all_said bits l (c ∷ cs) e h =
    all_more IsInLife (said_in bits l e c) (said_over bits l cs (after e c)) (said_in_life bits l e c h.0)
    (all_said bits l cs (after e c) h.1)

all_heard : (l : ℕ) (cs : List Call) (e : End) → AllByRecursion IsInLife (heard_over l cs e)
all_heard l [] e = tt
all_heard l (c ∷ cs) e =
    all_more IsInLife (heard_in l e c) (heard_over l cs (after e c)) (heard_in_life l e c) (all_heard l cs (after e c))

brought_moves : (b : Option Block) → MovesNone (brought b)
brought_moves None = tt
brought_moves (Some b) = (refl, tt)

act_moves : (l : ℕ) (other' s : Station) (x : Act) → IsDone l s x → MovesNone (calls_by other' x)
act_moves l other' s (Calls c) g = (g.1.moves_none, tt)
act_moves l other' s (BlockComes k) g = brought_moves (slice_get other'.blocks k)
act_moves l other' s (Goes k) g = tt

calls_move : (l : ℕ) (side : Side) (a : Air) (s : Step) → IsGiven l a s → MovesNone (calls_at side a (InLife s))
calls_move l Nb a (AtNb x) g = act_moves l a.ue a.nb x g
calls_move l Nb a (AtUe x) g = tt
calls_move l Nb a TtiPasses g = tt
calls_move l Ue a (AtNb x) g = tt
calls_move l Ue a (AtUe x) g = act_moves l a.nb a.ue x g
calls_move l Ue a TtiPasses g = tt

happens_in_life : (bits l : ℕ) (from : Side) (a : Air) (s : Step) → IsGiven l a s
    → AllByRecursion IsInLife (happens_in bits l from a (InLife s))
happens_in_life bits l from a s g =
    let cs = calls_at from a (InLife s) in
    let ds = calls_at (other from) a (InLife s) in
    all_more IsInLife (said_over bits l cs (end_at from a)) (heard_over l ds (end_at (other from) a))
    (all_said bits l cs (end_at from a) (calls_move l from a s g))
    (all_heard l ds (end_at (other from) a))

pub living_last : (l : ℕ) (xs : List AirStep) (x : AirStep) (a : Air) → AreLiving l a (xs ++ x ∷ [])
    → IsLiving l (lives xs a) x
living_last l [] x a g = g.0
living_last l (y ∷ xs) x a g = living_last l xs x (lives_on a y) g.1

-- ---- the flows

pub joined_go_on_in_life : (l : ℕ) (c : BearerConfig) (keys : Keys) (nb ue : End) (from : Side) (steps : List AirStep)
    (s : Step)
    → AmEndsBeginAlike l c keys nb ue → AreLiving l (outset nb ue) (steps ++ InLife s ∷ [])
    → (j : AreJoined l c nb ue from steps)
    (k : AreJoined l c nb ue from (steps ++ InLife s ∷ []))
    → GoesOnInLife (pdcp j.there) (pdcp k.there)
    (happens_in c.pdcp_bits l from (lives steps (outset nb ue)) (InLife s))
joined_go_on_in_life l c keys nb ue from steps s h g j k =
    let at = lives steps (outset nb ue) in
    let hs = happens_in c.pdcp_bits l from at (InLife s) in
    let a = told_from c l from steps (outset nb ue) in
    let b = told_from c l from (steps ++ InLife s ∷ []) (outset nb ue) in
    let same : b ≡ account hs a = told_on c l from steps (InLife s) (outset nb ue) in
    let order = in_order (happened c.pdcp_bits l from steps (outset nb ue)) no_account tt in
    let here = happens_in_life c.pdcp_bits l from at s (living_last l steps (InLife s) (outset nb ue) g) in
    let n : Lasts a b (gives hs) = subst (λ (x : Account). Lasts a x (gives hs)) (sym same) (lasts hs a here order) in
    let t = j.there_told in
    let u = k.there_told in
    record {
      first_is = first_in c k.there k.there_is ∙ sym (first_in c j.there j.there_is);
      stream_is = u.stream_is ∙ n.given ∙ ap (λ (gs : List Given). gs ++ gives hs) (sym t.stream_is);
      whole_stays = λ place e. u.whole_is place ∙ n.places place (sym (t.whole_is place) ∙ e);
      passed_rises = passed_stays a b (gives hs) (pdcp j.there).passed (pdcp k.there).passed n t.passed_is u.passed_is;
      handed_stays = λ count e. u.handed_is count
          ∙ come_stays a b (gives hs) count n (sym (t.handed_is count) ∙ e);
    }
