-- Each SDU that a bearer tells of as taken is that of its COUNT, with its length.
use Rattle.std.proofs.Common.{◌≡◌, ℕ, ◌==◌, Bool, true, if◌then◌else◌, Option, Some, None, Result, Ok, Err, List, []}
use Rattle.std.proofs.Common.{◌∷◌, ◌++◌, length, slice_get, option_map, refl, ap, sym, subst, ◌∙◌, arith}
use Rattle.std.specs.List.{AllByRecursion, flat_map}
use Rattle.std.proofs.lemmas.Bool.Decides.{nat_tests}
use Rattle.std.proofs.lemmas.Grind.{flat_map-append}
use Rattle.bearer.specs.declared.flow.Flow.{Flow}
use Rattle.bearer.specs.declared.flow.Flow.TheVariants.{Am}
use Rattle.bearer.specs.Acknowledged.State.{State}
use Rattle.bearer_pdcp.specs.Ends.{Ends}
use Rattle.bearer_pdcp.specs.Taking.{report_told, next_told, taking_told}
use Rattle.law_bearer.proofs.AnyBearer.Names.{AllNamed}
use Rattle.law_bearer.specs.AmBearer.Lives.{restarts}
use Rattle.law_bearer.specs.AnyBearer.Calls.{Call, Submit, Take, Arrive, Expire, Tick, SetDiscard, Step, Calls, Restart}
use Rattle.law_bearer.specs.AnyBearer.Calls.{after}
use Rattle.law_bearer.specs.AnyBearer.Queue.{IsNamed}
use Rattle.law_bearer.specs.AnyBearer.Stream.{takes, all_taken}
use Rattle.pdcp_pdu.specs.Pdus.{UserPdu, Sdu, Report}
use Rattle.pdcp_pdu.specs.Reading.{user_at}
use Rattle.pdcp_pdu.specs.declared.pdu.PdcpKind.{PdcpKind}
use Rattle.pdcp_pdu.specs.declared.pdu.PdcpKind.TheVariants.{Srb, Um, Am as AmKind}
use Rattle.pdcp_pdu.specs.declared.pdu.PdcpRefusal.{PdcpRefusal}
use Rattle.pdcp_sec.specs.Protection.{Protection}
use Rattle.pdcp_tx.specs.State.{Offer, offers, written, taking as pdcp_taking}
use Rattle.promises.specs.Taken.{TakenSdu, take_in, NamesSdu}
use Rattle.law_deliver.specs.AmFlow.Pair.{called}
use Rattle.law_deliver.proofs.AmDelivery.Gives.{takes_tell}
use Rattle.law_deliver.proofs.AmFlow.Events.{OfHearing, none_arriving, none_expiring, none_ticking, none_ending}
use Rattle.law_deliver.proofs.AmFlow.Sending.{is_called}
use Rattle.law_deliver.proofs.AmChannel.Bearers.{IsSteady, called_steady, restarts_steady}
use Rattle.law_deliver.proofs.AmChannel.Ends.{took_in, ends_took, all_took, take_off}
use Rattle.law_deliver.proofs.AmChannel.Leaving.{stays_on, any_offers}

-- ---- as RLC takes PDUs; a status report has no COUNT

abbrev told_as : Option ℕ → List ℕ → List TakenSdu
told_as None text = []
told_as (Some count) text = record { count = count; len = length text } ∷ []

abbrev pub taken_as : Offer → List TakenSdu
taken_as o = told_as o.count o.text

report_none : (l lcid : ℕ) (x : Result UserPdu PdcpRefusal) → flat_map (take_in l) (report_told lcid x) ≡ []
report_none l lcid (Err refusal) = refl
report_none l lcid (Ok (Sdu sn text)) = refl
report_none l lcid (Ok (Report fms bitmap)) = refl

one_told : (l lcid : ℕ) (kind own : PdcpKind) (p : Protection) (count : Option ℕ) (text : List ℕ) → lcid ≡ l
    → flat_map (take_in l) (next_told lcid kind (Some (written own p count text))) ≡ told_as count text
one_told l lcid Srb own p None text same = refl
one_told l lcid (Um bits) own p None text same = report_none l lcid (user_at bits text)
one_told l lcid (AmKind bits) own p None text same = report_none l lcid (user_at bits text)
one_told l lcid kind own p (Some count) text same =
    let here : (lcid == l) ≡ true = grind (arith, nat_tests, same) in
    ap (λ (b : Bool). (if b then record { count = count; len = length text } ∷ [] else []) ++ []) here

first_told : (l : ℕ) (e : Ends) (o : Offer) (os : List Offer) → e.lcid ≡ l → offers e.tx ≡ o ∷ os
    → flat_map (take_in l) (taking_told e) ≡ taken_as o
unfolding taking_told pdcp_taking
first_told l e o os same q =
    ap (λ (xs : List Offer). flat_map (take_in l)
    (next_told e.lcid e.kind
    (option_map (λ o. written e.tx.kind e.tx.protection o.count o.text) (slice_get xs 0)))) q
    ∙ one_told l e.lcid e.kind e.tx.kind e.tx.protection o.count o.text same

takes_are_told : (l : ℕ) (b : State) (share : ℕ) (held : Option ℕ) → b.pdcp.lcid ≡ l
    → took_in l (Am b) (Take share held) ≡ flat_map taken_as (takes (Am b) (Take share held))
takes_are_told l b share held same =
    subst (λ (n : ℕ). took_in n (Am b) (Take share held) ≡ flat_map taken_as (takes (Am b) (Take share held))) same
    (takes_tell (take_in b.pdcp.lcid) (λ s o. taken_as o) (λ e. e.lcid ≡ b.pdcp.lcid) (λ o. Unit {0})
    (stays_on b.pdcp.lcid) (λ s t o h. refl)
    (λ e o os fits fine q. first_told b.pdcp.lcid e o os fits q) (λ lcid way sn. refl) (λ lcid clock. refl)
    (λ lcid why. refl)
    b share held refl (any_offers (offers b.pdcp.tx)))

-- ---- in any call, and through lives

hears_no_take : (l m : ℕ) → OfHearing (λ x. take_in l x ≡ []) m
hears_no_take l m = record {
  start = λ clock. refl;
  stop = λ clock. refl;
  expired = λ clock. refl;
  up = λ sdu. refl;
  fail = λ sn. refl;
  drop = λ why own. refl;
  integrity = λ found wanted. refl;
  bad_rlc = λ fault. refl;
  bad_pdcp = λ fault. refl;
}

call_told : (bits l : ℕ) (b : State) (c : Call) → IsSteady bits l b
    → took_in l (Am b) c ≡ flat_map taken_as (takes (Am b) c)
call_told bits l b (Take share held) h = takes_are_told l b share held h.between.own
call_told bits l b (Submit sdu) h = refl
call_told bits l b (Arrive pdu) h = none_arriving take_in take_off l (Am b) h.between (hears_no_take l l) pdu
call_told bits l b (Expire clock) h = none_expiring take_in take_off l (Am b) h.between (hears_no_take l l) clock
call_told bits l b Tick h = none_ticking take_in take_off l (Am b) h.between (hears_no_take l l) (λ len. refl)
call_told bits l b (SetDiscard ttis) h = refl

pub all_told : (bits l : ℕ) (xs : List Step) (b : State) → IsSteady bits l b
    → all_took l (Am b) xs ≡ flat_map taken_as (all_taken (Am b) xs)
all_told bits l [] b h = refl
all_told bits l (Calls c ∷ xs) b h =
    let is = is_called b c in
    let d = called b c in
    let here = flat_map taken_as (takes (Am b) c) in
    ap (λ (f : Flow). took_in l (Am b) c ++ all_took l f xs) is
    ∙ (ap (λ (ts : List TakenSdu). ts ++ all_took l (Am d) xs) (call_told bits l b c h)
    ∙ (ap (λ (ts : List TakenSdu). here ++ ts) (all_told bits l xs d (called_steady bits l b c h))
    ∙ (ap (λ (f : Flow). here ++ flat_map taken_as (all_taken f xs)) (sym is)
    ∙ sym (flat_map-append taken_as (takes (Am b) c) (all_taken (after (Am b) c) xs)))))
all_told bits l (Restart keys ∷ xs) b h =
    let one = restarts_steady bits l b keys h in
    let d = restarts b keys in
    ap (λ (f : Flow). ends_took l (Am b) ++ all_took l f xs) one.left
    ∙ (ap (λ (ts : List TakenSdu). ts ++ all_took l (Am d) xs)
    (none_ending take_in take_off l (Am b) h.between (hears_no_take l l))
    ∙ (all_told bits l xs d one.steady ∙ ap (λ (f : Flow). flat_map taken_as (all_taken f xs)) (sym one.left)))

-- ---- each names its SDU

one_named : (first : ℕ) (sdus : List (List ℕ)) (o : Offer) (count : Option ℕ) (rest : List TakenSdu)
    → o.count ≡ count → IsNamed first sdus o → AllByRecursion (NamesSdu first sdus) rest
    → AllByRecursion (NamesSdu first sdus) (told_as count o.text ++ rest)
one_named first sdus o None rest e h more = more
one_named first sdus o (Some n) rest e h more =
    let named = h n e in
    (record { low = named.0; sdu = o.text; sdu_is = named.1; len_is = refl }, more)

pub each_named : (first : ℕ) (sdus : List (List ℕ)) (os : List Offer) → AllNamed first sdus os
    → AllByRecursion (NamesSdu first sdus) (flat_map taken_as os)
each_named first sdus [] h = tt
each_named first sdus (o ∷ os) h =
    one_named first sdus o o.count (flat_map taken_as os) refl h.0 (each_named first sdus os h.1)
