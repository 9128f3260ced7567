-- On an acknowledged data bearer a COUNT names one SDU through all lives.
use Rattle.std.proofs.Common.{◌≡◌, ℕ, zero, suc, List, [], ◌∷◌, ◌++◌, take, Option, Some, None, slice_get, subst, refl}
use Rattle.std.proofs.Common.{ap, sym, ◌∙◌}
use Rattle.std.proofs.lemmas.List.Elements.{All-nil, All-cons, All-head, All-tail}
use Rattle.bearer_types.specs.declared.BearerConfig.{BearerConfig}
use Rattle.eps_sec.specs.declared.Keys.{Keys}
use Rattle.l2_types.specs.declared.Kind.{Kind}
use Rattle.l2_types.specs.declared.Kind.TheVariants as kinds
use Rattle.l2_types.specs.declared.Side.{Side}
use Rattle.pdcp_pdu.specs.declared.PdcpKind.TheVariants as pdcp
use Rattle.pdcp_sec.specs.Protection.{Protection, protection_of}
use Rattle.pdcp_tx.specs.State.{State, Offer, offers, start}
use Rattle.pdcp_tx.specs.Runs.{Submit, Take, Confirm, Report, Owe, Tick, Late}
use Rattle.law_pdcp.specs.OneEnd.Lives.{Step, Calls, SetDiscard, Restart, goes, Ciphering, ciphering_under}
use Rattle.law_pdcp.specs.OneEnd.Lives.{ciphering_of, ciphers, cipherings, takes_first, first_taken, Names, AreNamed}
use Rattle.law_pdcp.proofs.OneEnd.Naming.{counts_are_named}
use Rattle.bearer_pdcp.specs.Ends.{begun, bearer_of, sends}
use Rattle.bearer.specs.Bearer.{flow_of}
use Rattle.law_bearer.specs.AnyBearer.Calls.{Step as BearerStep}
use Rattle.law_bearer.specs.AnyBearer.Stream.{all_taken}
use Rattle.law_bearer.specs.AnyBearer.Queue.{IsNamed, all_news}
use Rattle.law_bearer.specs.AnyBearer.Texts.{AreOneText}
use Rattle.law_bearer.proofs.AnyBearer.Sender.{Doings, takes_at, doings}
use Rattle.law_bearer.proofs.AnyBearer.Flows.{all_doings, lives_taken, lives_news, history}
use Rattle.law_bearer.proofs.AnyBearer.Streams.{begun_tx, am_begins}

abbrev pub AllNamed : ℕ → List (List ℕ) → List Offer → Type 0
AllNamed first sdus [] = Unit {0}
AllNamed first sdus (o ∷ os) = IsNamed first sdus o × AllNamed first sdus os

abbrev IsCiphered : ℕ → List (List ℕ) → Ciphering → Type 0
IsCiphered first sdus c = Names first sdus c.count c.sdu

split : (first : ℕ) (sdus : List (List ℕ)) (ds bs : List Ciphering) → AreNamed first sdus (ds ++ bs)
    → AreNamed first sdus ds × AreNamed first sdus bs
split first sdus [] bs h = (All-nil (IsCiphered first sdus), h)
split first sdus (d ∷ ds) bs h =
    let P = IsCiphered first sdus in
    let more = split first sdus ds bs (All-tail P d (ds ++ bs) h) in
    (All-cons P d ds (All-head P d (ds ++ bs) h) more.0, more.1)

count_named : (first : ℕ) (sdus : List (List ℕ)) (p : Protection) (o : Offer) (c : Option ℕ) → o.count ≡ c
    → AreNamed first sdus (ciphering_under p c o.text) → IsNamed first sdus o
count_named first sdus p o None q h n e = let no : None ≡ Some n = sym q ∙ e in cc
count_named first sdus p o (Some m) q h n e =
    let some : Some m ≡ Some n = sym q ∙ e in
    let same : m ≡ n = cc in
    subst (λ (k : ℕ). Names first sdus k o.text) same
    (All-head (IsCiphered first sdus) (record { protection = p; count = m; sdu = o.text }) [] h)

take_named : (first : ℕ) (sdus : List (List ℕ)) (p : Protection) (os rest : List Offer)
    → AreNamed first sdus (ciphering_of p (slice_get os 0)) → AllNamed first sdus rest
    → AllNamed first sdus (take 1 os ++ rest)
take_named first sdus p [] rest h r = r
take_named first sdus p (o ∷ os) rest h r = (count_named first sdus p o o.count refl h, r)

step_named : (first : ℕ) (sdus : List (List ℕ)) (s : State) (x : Step) (rest : List Offer)
    → AreNamed first sdus (ciphers s x) → AllNamed first sdus rest → AllNamed first sdus (takes_at s x ++ rest)
step_named first sdus s (Calls (Submit sdu)) rest h r = r
step_named first sdus s (Calls Take) rest h r = take_named first sdus s.protection (offers s) rest h r
step_named first sdus s (Calls (Confirm place)) rest h r = r
step_named first sdus s (Calls (Report fms bitmap)) rest h r = r
step_named first sdus s (Calls (Owe report)) rest h r = r
step_named first sdus s (Calls Tick) rest h r = r
step_named first sdus s (Calls Late) rest h r = r
step_named first sdus s (SetDiscard ttis) rest h r = r
step_named first sdus s (Restart keys) rest h r = r

all_named : (first : ℕ) (sdus : List (List ℕ)) (s : State) (xs : List Step) → AreNamed first sdus (cipherings s xs)
    → AllNamed first sdus (doings s xs).taken
all_named first sdus s [] h = tt
all_named first sdus s (x ∷ xs) h =
    let both = split first sdus (ciphers s x) (cipherings (goes s x) xs) h in
    step_named first sdus s x (doings (goes s x) xs).taken both.0 (all_named first sdus (goes s x) xs both.1)

first_news : (s : State) (xs : List Step) → (doings s xs).news ≡ first_taken s xs
first_news s [] = refl
first_news s (x ∷ xs) = ap (λ l. takes_first s x ++ l) (first_news (goes s x) xs)

named_at : (first : ℕ) (sdus : List (List ℕ)) (os : List Offer) (i : ℕ) (o : Offer) → AllNamed first sdus os
    → slice_get os i ≡ Some o → IsNamed first sdus o
named_at first sdus [] i o h g = let no : None ≡ Some o = g in cc
named_at first sdus (x ∷ os) zero o h g = let some : Some x ≡ Some o = g in let same : x ≡ o = cc in
    subst (IsNamed first sdus) same h.0
named_at first sdus (x ∷ os) (suc i) o h g = named_at first sdus os i o h.1 g

pub am_named : (c : BearerConfig) (keys : Keys) (side : Side) (xs : List BearerStep)
    → AllNamed c.first (all_news (flow_of kinds.Am c keys side) xs) (all_taken (flow_of kinds.Am c keys side) xs)
am_named c keys side xs =
    let f = flow_of kinds.Am c keys side in
    let p = protection_of (pdcp.Am c.pdcp_bits) keys (bearer_of c.channel.lcid) (sends side) in
    let s = start (pdcp.Am c.pdcp_bits) p c.first in
    let h = history f (begun c.channel.lcid (pdcp.Am c.pdcp_bits) c.first keys side) xs (am_begins c keys side) in
    let steps = h.passed.tx.steps in
    let did : all_doings f xs ≡ doings s steps = h.passed.tx.did
    ∙ ap (λ t. doings t steps) (begun_tx c.channel.lcid (pdcp.Am c.pdcp_bits) c.first keys side) in
    let took : (doings s steps).taken ≡ all_taken f xs = sym (ap (λ (a : Doings). a.taken) did) ∙ lives_taken f xs in
    let new : first_taken s steps ≡ all_news f xs = sym (first_news s steps) ∙ sym (ap (λ (a : Doings). a.news) did)
    ∙ lives_news f xs in
    subst (λ l. AllNamed c.first l (all_taken f xs)) new
    (subst (AllNamed c.first (first_taken s steps)) took
    (all_named c.first (first_taken s steps) s steps (counts_are_named (pdcp.Am c.pdcp_bits) p c.first steps refl)))

pub by_place : (c : BearerConfig) (keys : Keys) (side : Side) (xs : List BearerStep) (i : ℕ) (o : Offer)
    → c.kind ≡ kinds.Am
    → slice_get (all_taken (flow_of c.kind c keys side) xs) i ≡ Some o
    → IsNamed c.first (all_news (flow_of c.kind c keys side) xs) o
by_place c keys side xs i o k g =
    let am : slice_get (all_taken (flow_of kinds.Am c keys side) xs) i ≡ Some o =
    subst (λ (kind : Kind). slice_get (all_taken (flow_of kind c keys side) xs) i ≡ Some o) k g in
    subst (λ (kind : Kind). IsNamed c.first (all_news (flow_of kind c keys side) xs) o) (sym k)
    (named_at c.first (all_news (flow_of kinds.Am c keys side) xs) (all_taken (flow_of kinds.Am c keys side) xs) i o
    (am_named c keys side xs) am)

pub through_lives : (c : BearerConfig) (keys : Keys) (side : Side) (xs : List BearerStep) → c.kind ≡ kinds.Am
    → AreOneText (all_taken (flow_of c.kind c keys side) xs)
through_lives c keys side xs k i j n a b g h d e =
    let one = by_place c keys side xs i a k g n d in
    let two = by_place c keys side xs j b k h n e in
    let some : Some a.text ≡ Some b.text = sym one.1 ∙ two.1 in
    cc
