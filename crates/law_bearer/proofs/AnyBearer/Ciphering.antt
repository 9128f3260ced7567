-- Through all lives no two texts meet under one key at one COUNT.
use Rattle.std.proofs.Common.{◌≡◌, ◌⊎◌, inl, inr, ◌≤◌, ℕ, ◌+◌, List, [], ◌∷◌, ◌++◌, map, Option, Some, None}
use Rattle.std.proofs.Common.{append_assoc, append-nil, subst, refl, ap, sym, ◌∙◌, arith}
use Rattle.std.specs.List.{AllByRecursion}
use Rattle.bearer_types.specs.declared.BearerConfig.{BearerConfig}
use Rattle.eps_sec.specs.declared.Keys.{Keys}
use Rattle.l2_num.specs.Ascending.{IsAscending}
use Rattle.l2_types.specs.declared.Kind.{Kind}
use Rattle.l2_types.specs.declared.Kind.TheVariants as kinds
use Rattle.l2_types.specs.declared.Side.{Side}
use Rattle.law_pdcp.specs.OneEnd.Lives.{Ciphering, ciphering_under}
use Rattle.pdcp_pdu.specs.declared.PdcpKind.{PdcpKind}
use Rattle.pdcp_pdu.specs.declared.PdcpKind.TheVariants as pdcp
use Rattle.pdcp_sec.specs.Protection.{Protection, key_of}
use Rattle.pdcp_tx.specs.State.{Offer}
use Rattle.pdcp_tx.specs.Runs.{counts_in}
use Rattle.bearer_pdcp.specs.Ends.{Ends, begun, bearer_of, sends}
use Rattle.bearer.specs.declared.flow.Flow.{Flow}
use Rattle.bearer.specs.Bearer.{flow_of}
use Rattle.law_bearer.specs.AnyBearer.Calls.{Call, after, after_all, Step, Calls, Restart, goes, run_bearer, reached}
use Rattle.law_bearer.specs.AnyBearer.Calls.{ends}
use Rattle.law_bearer.specs.AnyBearer.Ciphering.{ciphered_of, ciphered_by, ciphered, ShareText, AllShareText, restarts}
use Rattle.law_bearer.specs.AnyBearer.Ciphering.{cipher_key, IsOneOf, IsOfBearer}
use Rattle.law_words.specs.Lists.{AreDistinct}
use Rattle.law_bearer.specs.AnyBearer.Stream.{takes, taken, counts}
use Rattle.law_bearer.specs.AnyBearer.Texts.{keys_after, IsUnder}
use Rattle.law_bearer.proofs.AnyBearer.Flows.{history, all_doings, run_more, none_steps}
use Rattle.law_bearer.proofs.AnyBearer.Keyed.{under_its_keys}
use Rattle.law_bearer.proofs.AnyBearer.Parts.{lives_kind}
use Rattle.law_bearer.proofs.AnyBearer.Streams.{um_begins, am_begins, srb_begins, begun_kind}
use Rattle.law_bearer.proofs.AnyBearer.Texts.{takes_once}

-- ---- lists

all_then : (P : Ciphering → Type 0) (xs ys : List Ciphering) → AllByRecursion P xs → AllByRecursion P ys
    → AllByRecursion P (xs ++ ys)
all_then P [] ys p q = q
all_then P (x ∷ xs) ys p q = (p.0, all_then P xs ys p.1 q)

all_by : (P Q : Ciphering → Type 0) (xs : List Ciphering) → ((x : Ciphering) → P x → Q x) → AllByRecursion P xs
    → AllByRecursion Q xs
all_by P Q [] h p = tt
all_by P Q (x ∷ xs) h p = (h x p.0, all_by P Q xs h p.1)

share_none : (xs : List Ciphering) → AllShareText xs []
share_none [] = tt
share_none (x ∷ xs) = (tt, share_none xs)

share_then : (xs ys zs : List Ciphering) → AllShareText xs ys → AllShareText xs zs → AllShareText xs (ys ++ zs)
share_then [] ys zs p q = tt
share_then (x ∷ xs) ys zs p q = (all_then (ShareText x) ys zs p.0 q.0, share_then xs ys zs p.1 q.1)

share_first : (x : Ciphering) (xs ys : List Ciphering) → AllByRecursion (ShareText x) ys → AllShareText ys xs
    → AllShareText ys (x ∷ xs)
share_first x xs [] p q = tt
share_first x xs (y ∷ ys) p q =
    ((λ k b d c. sym (p.0 (sym k) (sym b) (sym d) (sym c)), q.0), share_first x xs ys p.1 q.1)

share_turned : (xs ys : List Ciphering) → AllShareText xs ys → AllShareText ys xs
share_turned [] ys p = share_none ys
share_turned (x ∷ xs) ys p = share_first x xs ys p.0 (share_turned xs ys p.1)

share_both : (xs ys : List Ciphering) → AllShareText xs xs → AllShareText xs ys → AllShareText ys ys
    → AllShareText (xs ++ ys) (xs ++ ys)
share_both xs ys p q r =
    all_then (λ a. AllByRecursion (ShareText a) (xs ++ ys)) xs ys (share_then xs xs ys p q)
    (share_then ys xs ys (share_turned xs ys q) r)

-- ---- COUNTs that ascend

pub counts_more : (os ps : List Offer) → counts (os ++ ps) ≡ counts os ++ counts ps
counts_more [] ps = refl
counts_more (o ∷ os) ps = ap (λ (ns : List ℕ). counts_in o.count ++ ns) (counts_more os ps)
    ∙ sym (append_assoc (counts_in o.count) (counts os) (counts ps))

abbrev count_of : Ciphering → ℕ
count_of x = x.count

one_count : (p : Protection) (count : Option ℕ) (text : List ℕ) (xs : List Ciphering)
    → map count_of (ciphering_under p count text ++ xs) ≡ counts_in count ++ map count_of xs
one_count p None text xs = refl
one_count p (Some count) text xs = refl

counts_of : (p : Protection) (os : List Offer) → map count_of (ciphered_of p os) ≡ counts os
counts_of p [] = refl
counts_of p (o ∷ os) = one_count p o.count o.text (ciphered_of p os)
    ∙ ap (λ (ns : List ℕ). counts_in o.count ++ ns) (counts_of p os)

above : (low : ℕ) (ns : List ℕ) → IsAscending low ns → AllByRecursion (λ n. low ≤ n) ns
above low [] h = tt
above low (n ∷ ns) h = (h.0, raised (n + 1) low ns (let first = h.0 in omega (arith, first)) (above (n + 1) ns h.1))
  where
    raised : (a b : ℕ) (ms : List ℕ) → b ≤ a → AllByRecursion (λ m. a ≤ m) ms → AllByRecursion (λ m. b ≤ m) ms
    raised a b [] le p = tt
    raised a b (m ∷ ms) le p = ((let first = p.0 in omega (arith, le, first)), raised a b ms le p.1)

behind : (ns ms : List ℕ) (low : ℕ) → IsAscending low (ns ++ ms) → IsAscending 0 ms
behind [] ms low h = lowered low ms h
  where
    lowered : (a : ℕ) (ks : List ℕ) → IsAscending a ks → IsAscending 0 ks
    lowered a [] h = tt
    lowered a (k ∷ ks) h = (omega arith, h.1)
behind (n ∷ ns) ms low h = behind ns ms (n + 1) h.1

-- one behind another in a list that ascends doesn't meet it
never_meets : (x : Ciphering) (ys : List Ciphering) → AllByRecursion (λ n. x.count + 1 ≤ n) (map count_of ys)
    → AllByRecursion (ShareText x) ys
never_meets x [] h = tt
never_meets x (y ∷ ys) h = ((λ k b d c. let over = h.0 in absurd (omega (arith, over, c))), never_meets x ys h.1)

last_of : (ns ms : List ℕ) (P : ℕ → Type 0) → AllByRecursion P (ns ++ ms) → AllByRecursion P ms
last_of [] ms P h = h
last_of (n ∷ ns) ms P h = last_of ns ms P h.1

-- nor do those in its front those in its end
apart : (low : ℕ) (xs ys : List Ciphering) (between : List ℕ)
    → IsAscending low (map count_of xs ++ (between ++ map count_of ys)) → AllShareText xs ys
apart low [] ys between h = tt
apart low (x ∷ xs) ys between h = (
  never_meets x ys (last_of between (map count_of ys) (λ n. x.count + 1 ≤ n)
      (last_of (map count_of xs) (between ++ map count_of ys) (λ n. x.count + 1 ≤ n) (above (x.count + 1) _ h.1))),
  apart (x.count + 1) xs ys between h.1,
)

alone : (low : ℕ) (xs : List Ciphering) → IsAscending low (map count_of xs) → AllShareText xs xs
alone low [] h = tt
alone low (x ∷ xs) h =
    let rest = never_meets x xs (above (x.count + 1) (map count_of xs) h.1) in
    (((λ k b d c. refl), rest), share_first x xs xs rest (alone (x.count + 1) xs h.1))

-- ---- keys

pub none_of_them : (key : List ℕ) (keys : List (List ℕ)) → IsOneOf key keys
    → AllByRecursion (λ other. key ≡ other → ⊥) keys → ⊥
none_of_them key [] (is) h = is
none_of_them key (other ∷ keys) (inl same) h = h.0 same
none_of_them key (other ∷ keys) (inr more) h = none_of_them key keys more h.1

-- ---- the bearer's key

begins_with : (kind : PdcpKind) (lcid first : ℕ) (keys : Keys) (side : Side) (f : Flow) (xs : List Step) (e : Ends)
    → ends f ≡ Some (begun lcid kind first keys side) → ends (run_bearer xs f) ≡ Some e → e.tx.kind ≡ kind
unfolding begun
begins_with kind lcid first keys side f xs e q is =
    let start = begun lcid kind first keys side in
    let h = history f start xs q in
    let some : Some h.next ≡ Some e = sym h.is ∙ is in
    let same : h.next ≡ e = cc in
    let k = lives_kind start h.next (all_doings f xs) h.passed (begun_kind lcid kind first keys side) in
    ap (λ (x : Ends). x.tx.kind) (sym same) ∙ k.tx ∙ h.passed.kind

key_is : (kind : Kind) (c : BearerConfig) (keys now : Keys) (side : Side) (xs : List Step) (e : Ends)
    → ends (run_bearer xs (flow_of kind c keys side)) ≡ Some e → (key_of e.tx.kind now).octets ≡ cipher_key kind now
key_is kinds.Tm c keys now side xs e is = let no : None ≡ Some e =
    sym (none_steps (flow_of kinds.Tm c keys side) xs refl) ∙ is in cc
key_is kinds.Srb c keys now side xs e is =
    ap (λ (k : PdcpKind). (key_of k now).octets)
    (begins_with pdcp.Srb c.channel.lcid c.first keys side (flow_of kinds.Srb c keys side) xs e
    (srb_begins c keys side) is)
key_is kinds.Um c keys now side xs e is =
    ap (λ (k : PdcpKind). (key_of k now).octets)
    (begins_with (pdcp.Um c.pdcp_bits) c.channel.lcid c.first keys side (flow_of kinds.Um c keys side) xs e
    (um_begins c keys side) is)
key_is kinds.Am c keys now side xs e is =
    ap (λ (k : PdcpKind). (key_of k now).octets)
    (begins_with (pdcp.Am c.pdcp_bits) c.channel.lcid c.first keys side (flow_of kinds.Am c keys side) xs e
    (am_begins c keys side) is)

-- ---- what is ciphered in a call

one_as : (p : Protection) (count : Option ℕ) (text : List ℕ) (P : Ciphering → Type 0)
    → ((x : Ciphering) → x.protection.key ≡ p.key → x.protection.bearer ≡ p.bearer
    → x.protection.direction ≡ p.direction → P x) → AllByRecursion P (ciphering_under p count text)
one_as p None text P h = tt
one_as p (Some count) text P h = (h _ refl refl refl, tt)

all_as : (p : Protection) (os : List Offer) (P : Ciphering → Type 0)
    → ((x : Ciphering) → x.protection.key ≡ p.key → x.protection.bearer ≡ p.bearer
    → x.protection.direction ≡ p.direction → P x) → AllByRecursion P (ciphered_of p os)
all_as p [] P h = tt
all_as p (o ∷ os) P h =
    all_then P (ciphering_under p o.count o.text) (ciphered_of p os) (one_as p o.count o.text P h) (all_as p os P h)

-- under the key of the life, with the bearer's own parameters
pub record IsOfLife (c : BearerConfig) (side : Side) (now : Keys) (x : Ciphering) : Type 0 where
  pub key : x.protection.key ≡ cipher_key c.kind now
  pub bearer : x.protection.bearer ≡ bearer_of c.channel.lcid
  pub direction : x.protection.direction ≡ sends side

of_life_by : (c : BearerConfig) (keys : Keys) (side : Side) (xs : List Step) (o : Option Ends) (os : List Offer)
    → ends (reached c keys side xs) ≡ o → IsUnder (keys_after keys xs) c.channel.lcid side o
    → AllByRecursion (IsOfLife c side (keys_after keys xs)) (ciphered_by o os)
of_life_by c keys side xs None os is under = tt
of_life_by c keys side xs (Some e) os is under =
    let now = keys_after keys xs in
    let k : e.tx.protection.key ≡ cipher_key c.kind now =
    ap (λ (p : Protection). p.key) under ∙ key_is c.kind c keys now side xs e is in
    all_as e.tx.protection os (IsOfLife c side now)
    (λ x key bearer direction. record {
      key = key ∙ k;
      bearer = bearer ∙ ap (λ (p : Protection). p.bearer) under;
      direction = direction ∙ ap (λ (p : Protection). p.direction) under;
    })

of_life : (c : BearerConfig) (keys : Keys) (side : Side) (xs : List Step) (os : List Offer)
    → AllByRecursion (IsOfLife c side (keys_after keys xs)) (ciphered_by (ends (reached c keys side xs)) os)
of_life c keys side xs os =
    of_life_by c keys side xs (ends (reached c keys side xs)) os refl (under_its_keys c keys side xs)

none_ciphered : (o : Option Ends) → ciphered_by o [] ≡ []
none_ciphered None = refl
none_ciphered (Some e) = refl

-- ---- step by step

steps_then : (c : BearerConfig) (keys : Keys) (side : Side) (xs : List Step) (x : Step)
    → reached c keys side (xs ++ x ∷ []) ≡ goes (reached c keys side xs) x
steps_then c keys side xs x = run_more (flow_of c.kind c keys side) xs (x ∷ [])

keys_then : (keys : Keys) (xs ys : List Step) → keys_after keys (xs ++ ys) ≡ keys_after (keys_after keys xs) ys
keys_then keys [] ys = refl
keys_then keys (Calls c ∷ xs) ys = keys_then keys xs ys
keys_then keys (Restart next ∷ xs) ys = keys_then next xs ys

of_first : (c : BearerConfig) (side : Side) (now : Keys) (keys : List Keys) (x : Ciphering) → IsOfLife c side now x
    → IsOfBearer c side (now ∷ keys) x
of_first c side now keys x h = record { key = inl h.key; bearer = h.bearer; direction = h.direction }

of_more : (c : BearerConfig) (side : Side) (now : Keys) (keys : List Keys) (x : Ciphering) → IsOfBearer c side keys x
    → IsOfBearer c side (now ∷ keys) x
of_more c side now keys x h = record { key = inr h.key; bearer = h.bearer; direction = h.direction }

-- from any moment on
pub as_itself : (c : BearerConfig) (keys : Keys) (side : Side) (xs ys : List Step)
    → AllByRecursion (IsOfBearer c side (keys_after keys xs ∷ restarts ys)) (ciphered (reached c keys side xs) ys)
as_itself c keys side xs [] = tt
as_itself c keys side xs (Calls d ∷ ys) =
    let f = reached c keys side xs in
    let now = keys_after keys xs in
    let P = IsOfBearer c side (now ∷ restarts ys) in
    let until = xs ++ Calls d ∷ [] in
    let rest : AllByRecursion P (ciphered (after f d) ys) =
    subst (λ (g : Flow). AllByRecursion P (ciphered g ys)) (steps_then c keys side xs (Calls d))
    (subst (λ (k : Keys). AllByRecursion (IsOfBearer c side (k ∷ restarts ys))
    (ciphered (reached c keys side until) ys)) (keys_then keys xs (Calls d ∷ []))
    (as_itself c keys side until ys)) in
    all_then P (ciphered_by (ends f) (takes f d)) (ciphered (after f d) ys)
    (all_by (IsOfLife c side now) P (ciphered_by (ends f) (takes f d)) (of_first c side now (restarts ys))
    (of_life c keys side xs (takes f d))) rest
as_itself c keys side xs (Restart next ∷ ys) =
    let f = reached c keys side xs in
    let now = keys_after keys xs in
    let P = IsOfBearer c side (now ∷ next ∷ restarts ys) in
    let until = xs ++ Restart next ∷ [] in
    let rest : AllByRecursion (IsOfBearer c side (next ∷ restarts ys)) (ciphered (goes f (Restart next)) ys) =
    subst (λ (g : Flow). AllByRecursion (IsOfBearer c side (next ∷ restarts ys)) (ciphered g ys))
    (steps_then c keys side xs (Restart next))
    (subst (λ (k : Keys). AllByRecursion (IsOfBearer c side (k ∷ restarts ys))
    (ciphered (reached c keys side until) ys)) (keys_then keys xs (Restart next ∷ []))
    (as_itself c keys side until ys)) in
    subst (λ (zs : List Ciphering). AllByRecursion P (zs ++ ciphered (goes f (Restart next)) ys))
    (sym (none_ciphered (ends f)))
    (all_by (IsOfBearer c side (next ∷ restarts ys)) P (ciphered (goes f (Restart next)) ys)
    (of_more c side now (next ∷ restarts ys)) rest)

-- ---- the texts of a life

abbrev all_calls : List Call → List Step
all_calls [] = []
all_calls (d ∷ ds) = Calls d ∷ all_calls ds

run_calls : (f : Flow) (ds : List Call) → run_bearer (all_calls ds) f ≡ after_all f ds
run_calls f [] = refl
run_calls f (d ∷ ds) = run_calls (after f d) ds

after_calls : (c : BearerConfig) (keys : Keys) (side : Side) (xs : List Step) (ds : List Call)
    → reached c keys side (xs ++ all_calls ds) ≡ after_all (reached c keys side xs) ds
after_calls c keys side xs ds = run_more (flow_of c.kind c keys side) xs (all_calls ds)
    ∙ run_calls (reached c keys side xs) ds

keys_calls : (keys : Keys) (ds : List Call) → keys_after keys (all_calls ds) ≡ keys
keys_calls keys [] = refl
keys_calls keys (d ∷ ds) = keys_calls keys ds

all_after : (f : Flow) (ds es : List Call) → after_all f (ds ++ es) ≡ after_all (after_all f ds) es
all_after f [] es = refl
all_after f (d ∷ ds) es = all_after (after f d) ds es

taken_then : (f : Flow) (ds : List Call) (e : Call) → taken f (ds ++ e ∷ []) ≡ taken f ds ++ takes (after_all f ds) e
taken_then f [] e = append-nil (takes f e)
taken_then f (d ∷ ds) e = ap (λ (os : List Offer). takes f d ++ os) (taken_then (after f d) ds e)
    ∙ sym (append_assoc (takes f d) (taken (after f d) ds) (takes (after_all (after f d) ds) e))

counts_by : (o : Option Ends) (os : List Offer) → (ciphered_by o os ≡ [])
    ⊎ (map count_of (ciphered_by o os) ≡ counts os)
counts_by None os = inl refl
counts_by (Some e) os = inr (counts_of e.tx.protection os)

share_nothing : (xs ys : List Ciphering) → ys ≡ [] → AllShareText xs ys
share_nothing xs ys none = subst (AllShareText xs) (sym none) (share_none xs)

nothing_shares : (xs ys : List Ciphering) → xs ≡ [] → AllShareText xs ys
nothing_shares xs ys none = subst (λ (zs : List Ciphering). AllShareText zs ys) (sym none) tt

-- those of a call, among one another
now_alone : (c : BearerConfig) (keys : Keys) (side : Side) (xs : List Step) (d : Call)
    → AllShareText (ciphered_by (ends (reached c keys side xs)) (takes (reached c keys side xs) d))
    (ciphered_by (ends (reached c keys side xs)) (takes (reached c keys side xs) d))
now_alone c keys side xs d =
    let f = reached c keys side xs in
    let now = ciphered_by (ends f) (takes f d) in
    let up : IsAscending 0 (counts (takes f d)) =
    subst (λ (os : List Offer). IsAscending 0 (counts os)) (append-nil (takes f d))
    (takes_once c keys side xs (d ∷ [])) in
    elim (counts_by (ends f) (takes f d)) [
      | inl none ↦ nothing_shares now now none
      | inr are ↦ alone 0 now (subst (IsAscending 0) (sym are) up)
    ]

-- those of a call, and of a later one of the life
now_later : (c : BearerConfig) (keys : Keys) (side : Side) (xs : List Step) (d : Call) (ds : List Call) (e : Call)
    → AllShareText (ciphered_by (ends (reached c keys side xs)) (takes (reached c keys side xs) d))
    (ciphered_by (ends (after_all (reached c keys side xs) (d ∷ ds)))
    (takes (after_all (reached c keys side xs) (d ∷ ds)) e))
now_later c keys side xs d ds e =
    let f = reached c keys side xs in
    let g = after_all f (d ∷ ds) in
    let now = ciphered_by (ends f) (takes f d) in
    let later = ciphered_by (ends g) (takes g e) in
    let between = counts (taken (after f d) ds) in
    let are : counts (taken f (d ∷ (ds ++ e ∷ []))) ≡ counts (takes f d) ++ (between ++ counts (takes g e)) =
    ap (λ (os : List Offer). counts (takes f d ++ os)) (taken_then (after f d) ds e)
    ∙ counts_more (takes f d) (taken (after f d) ds ++ takes g e)
    ∙ ap (λ (ns : List ℕ). counts (takes f d) ++ ns) (counts_more (taken (after f d) ds) (takes g e)) in
    let up : IsAscending 0 (counts (takes f d) ++ (between ++ counts (takes g e))) =
    subst (IsAscending 0) are (takes_once c keys side xs (d ∷ (ds ++ e ∷ []))) in
    elim (counts_by (ends f) (takes f d)) [
      | inl none ↦ nothing_shares now later none
      | inr first ↦ elim (counts_by (ends g) (takes g e)) [
        | inl none ↦ share_nothing now later none
        | inr second ↦ apart 0 now later between (rw (first, second) up)
      ]
    ]

-- ---- through lives

-- under another key none meets
other_key : (c : BearerConfig) (side : Side) (now : Keys) (keys : List Keys) (xs ys : List Ciphering)
    → AllByRecursion (λ other. cipher_key c.kind now ≡ other → ⊥) (map (cipher_key c.kind) keys)
    → AllByRecursion (IsOfLife c side now) xs → AllByRecursion (IsOfBearer c side keys) ys → AllShareText xs ys
other_key c side now keys [] ys h p q = tt
other_key c side now keys (x ∷ xs) ys h p q = (with_each ys q, other_key c side now keys xs ys h p.1 q)
  where
    with_each : (zs : List Ciphering) → AllByRecursion (IsOfBearer c side keys) zs → AllByRecursion (ShareText x) zs
    with_each [] r = tt
    with_each (z ∷ zs) r = (
      (λ k b d n. absurd
          (none_of_them (cipher_key c.kind now) (map (cipher_key c.kind) keys)
          (subst (λ (key : List ℕ). IsOneOf key (map (cipher_key c.kind) keys)) (sym k ∙ p.0.key) r.0.key) h)),
      with_each zs r.1,
    )

-- those of a call, and all that come behind it
now_then : (c : BearerConfig) (keys : Keys) (side : Side) (xs : List Step) (d : Call) (ds : List Call) (ys : List Step)
    → AllByRecursion (λ other. cipher_key c.kind (keys_after keys xs) ≡ other
    → ⊥) (map (cipher_key c.kind) (restarts ys))
    → AllShareText (ciphered_by (ends (reached c keys side xs)) (takes (reached c keys side xs) d))
    (ciphered (after_all (reached c keys side xs) (d ∷ ds)) ys)
now_then c keys side xs d ds [] h =
    share_none (ciphered_by (ends (reached c keys side xs)) (takes (reached c keys side xs) d))
now_then c keys side xs d ds (Calls e ∷ ys) h =
    let f = reached c keys side xs in
    let g = after_all f (d ∷ ds) in
    let now = ciphered_by (ends f) (takes f d) in
    share_then now (ciphered_by (ends g) (takes g e)) (ciphered (after g e) ys) (now_later c keys side xs d ds e)
    (subst (λ (x : Flow). AllShareText now (ciphered x ys)) (all_after (after f d) ds (e ∷ []))
    (now_then c keys side xs d (ds ++ e ∷ []) ys h))
now_then c keys side xs d ds (Restart next ∷ ys) h =
    let f = reached c keys side xs in
    let g = after_all f (d ∷ ds) in
    let now = ciphered_by (ends f) (takes f d) in
    let until = (xs ++ all_calls (d ∷ ds)) ++ Restart next ∷ [] in
    let there : reached c keys side until ≡ goes g (Restart next) =
    steps_then c keys side (xs ++ all_calls (d ∷ ds)) (Restart next)
    ∙ ap (λ (x : Flow). goes x (Restart next)) (after_calls c keys side xs (d ∷ ds)) in
    let later : AllByRecursion (IsOfBearer c side (next ∷ restarts ys)) (ciphered (goes g (Restart next)) ys) =
    subst (λ (x : Flow). AllByRecursion (IsOfBearer c side (next ∷ restarts ys)) (ciphered x ys)) there
    (subst (λ (k : Keys). AllByRecursion (IsOfBearer c side (k ∷ restarts ys))
    (ciphered (reached c keys side until) ys)) (keys_then keys (xs ++ all_calls (d ∷ ds)) (Restart next ∷ []))
    (as_itself c keys side until ys)) in
    subst (λ (zs : List Ciphering). AllShareText now (zs ++ ciphered (goes g (Restart next)) ys))
    (sym (none_ciphered (ends g)))
    (other_key c side (keys_after keys xs) (next ∷ restarts ys) now (ciphered (goes g (Restart next)) ys) h
    (of_life c keys side xs (takes f d)) later)

all_share : (c : BearerConfig) (keys : Keys) (side : Side) (xs ys : List Step)
    → AreDistinct (map (cipher_key c.kind) (keys_after keys xs ∷ restarts ys))
    → AllShareText (ciphered (reached c keys side xs) ys) (ciphered (reached c keys side xs) ys)
all_share c keys side xs [] h = tt
all_share c keys side xs (Calls d ∷ ys) h =
    let f = reached c keys side xs in
    let until = xs ++ Calls d ∷ [] in
    let distinct =
    subst (λ (k : Keys). AreDistinct (map (cipher_key c.kind) (k ∷ restarts ys)))
    (sym (keys_then keys xs (Calls d ∷ []))) h in
    share_both (ciphered_by (ends f) (takes f d)) (ciphered (after f d) ys) (now_alone c keys side xs d)
    (now_then c keys side xs d [] ys h.0)
    (subst (λ (g : Flow). AllShareText (ciphered g ys) (ciphered g ys)) (steps_then c keys side xs (Calls d))
    (all_share c keys side until ys distinct))
all_share c keys side xs (Restart next ∷ ys) h =
    let f = reached c keys side xs in
    let until = xs ++ Restart next ∷ [] in
    let distinct =
    subst (λ (k : Keys). AreDistinct (map (cipher_key c.kind) (k ∷ restarts ys)))
    (sym (keys_then keys xs (Restart next ∷ []))) h.1 in
    let rest = ciphered (goes f (Restart next)) ys in
    subst (λ (zs : List Ciphering). AllShareText (zs ++ rest) (zs ++ rest)) (sym (none_ciphered (ends f)))
    (subst (λ (g : Flow). AllShareText (ciphered g ys) (ciphered g ys)) (steps_then c keys side xs (Restart next))
    (all_share c keys side until ys distinct))

-- ---- the laws

pub ciphers_as_itself : (c : BearerConfig) (keys : Keys) (side : Side) (xs : List Step)
    → AllByRecursion (IsOfBearer c side (keys ∷ restarts xs)) (ciphered (flow_of c.kind c keys side) xs)
ciphers_as_itself c keys side xs = as_itself c keys side [] xs

pub one_text_a_key : (c : BearerConfig) (keys : Keys) (side : Side) (xs : List Step)
    → AreDistinct (map (cipher_key c.kind) (keys ∷ restarts xs))
    → AllShareText (ciphered (flow_of c.kind c keys side) xs) (ciphered (flow_of c.kind c keys side) xs)
one_text_a_key c keys side xs h = all_share c keys side [] xs h
