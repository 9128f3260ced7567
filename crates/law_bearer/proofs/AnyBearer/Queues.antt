-- SDUs leave the queue in the order in which they were submitted.
use Rattle.std.proofs.Common.{◌≡◌, ◌≢◌, ◌⊎◌, inl, inr, ℕ, List, [], ◌∷◌, ◌++◌, map, Some, subst, refl, ap, sym, ◌∙◌}
use Rattle.bearer_types.specs.declared.BearerConfig.{BearerConfig}
use Rattle.eps_sec.specs.declared.Keys.{Keys}
use Rattle.l2_types.specs.declared.Kind.{Kind}
use Rattle.l2_types.specs.declared.Kind.TheVariants as kinds
use Rattle.l2_types.specs.declared.Side.{Side}
use Rattle.pdcp_pdu.specs.declared.PdcpKind.{PdcpKind}
use Rattle.pdcp_pdu.specs.declared.PdcpKind.TheVariants as pdcp
use Rattle.pdcp_sec.specs.Protection.{Protection, protection_of}
use Rattle.pdcp_tx.specs.State.{State, start}
use Rattle.law_pdcp.specs.OneEnd.Lives.{Step as SenderStep, goes as sender_goes, submits, submitted_in, leaves, left_in}
use Rattle.law_pdcp.proofs.OneEnd.Queue.{in_order}
use Rattle.bearer_pdcp.specs.Ends.{Ends, begun, bearer_of, sends}
use Rattle.bearer.specs.declared.flow.Flow.{Flow}
use Rattle.bearer.specs.Bearer.{flow_of}
use Rattle.law_bearer.specs.AnyBearer.Calls.{Step, run_bearer, reached, ends}
use Rattle.law_bearer.specs.AnyBearer.Queue.{queue, all_submitted, all_left}
use Rattle.law_bearer.proofs.AnyBearer.Sender.{Doings, doings}
use Rattle.law_bearer.proofs.AnyBearer.Flows.{lives_left, lives_submitted, history}
use Rattle.law_bearer.proofs.AnyBearer.Streams.{begun_tx, um_begins, am_begins}

left_is : (s : State) (xs : List SenderStep) → (doings s xs).left ≡ left_in s xs
left_is s [] = refl
left_is s (x ∷ xs) = ap (λ l. leaves s x ++ l) (left_is (sender_goes s x) xs)

submitted_is : (s : State) (xs : List SenderStep) → (doings s xs).submitted ≡ submitted_in xs
submitted_is s [] = refl
submitted_is s (x ∷ xs) = ap (λ l. submits x ++ l) (submitted_is (sender_goes s x) xs)

start_kind : (kind : PdcpKind) (p : Protection) (first : ℕ) → (start kind p first).kind ≡ kind
unfolding start
start_kind kind p first = refl

start_waits : (kind : PdcpKind) (p : Protection) (first : ℕ) → (start kind p first).waiting ≡ []
unfolding start
start_waits kind p first = refl

flow_order : (f : Flow) (kind : PdcpKind) (lcid first : ℕ) (keys : Keys) (side : Side) (xs : List Step)
    → kind ≢ pdcp.Srb → ends f ≡ Some (begun lcid kind first keys side)
    → all_left f xs ++ queue (ends (run_bearer xs f)) ≡ all_submitted xs
flow_order f kind lcid first keys side xs data' q =
    let p : Protection = protection_of kind keys (bearer_of lcid) (sends side) in
    let s : State = start kind p first in
    let e : Ends = begun lcid kind first keys side in
    let h = history f e xs q in
    let steps = h.passed.tx.steps in
    let from : e.tx ≡ s = begun_tx lcid kind first keys side in
    let law : left_in e.tx steps ++ map (λ w. w.sdu) h.next.tx.waiting
    ≡ map (λ w. w.sdu) e.tx.waiting ++ submitted_in steps =
    subst (λ (t : State). left_in e.tx steps ++ map (λ w. w.sdu) t.waiting
    ≡ map (λ w. w.sdu) e.tx.waiting ++ submitted_in steps) (sym h.passed.tx.left)
    (in_order e.tx steps
    (subst (λ k. k ≢ pdcp.Srb) (sym (ap (λ (t : State). t.kind) from ∙ start_kind kind p first)) data')) in
    let waits : e.tx.waiting ≡ [] = ap (λ (t : State). t.waiting) from ∙ start_waits kind p first in
    let left : all_left f xs ≡ left_in e.tx steps = sym (lives_left f xs)
    ∙ ap (λ (a : Doings). a.left) h.passed.tx.did ∙ left_is e.tx steps in
    let given : submitted_in steps ≡ all_submitted xs = sym (submitted_is e.tx steps)
    ∙ sym (ap (λ (a : Doings). a.submitted) h.passed.tx.did) ∙ lives_submitted f xs in
    ap (λ o. all_left f xs ++ queue o) h.is
    ∙ ap (λ l. l ++ map (λ w. w.sdu) h.next.tx.waiting) left
    ∙ law
    ∙ ap (λ ws. map (λ w. w.sdu) ws ++ submitted_in steps) waits
    ∙ given

abbrev Leaves : Kind → BearerConfig → Keys → Side → List Step → Type 0
Leaves kind c keys side xs = all_left (flow_of kind c keys side) xs
    ++ queue (ends (run_bearer xs (flow_of kind c keys side))) ≡ all_submitted xs

pub leaves_in_order : (c : BearerConfig) (keys : Keys) (side : Side) (xs : List Step)
    → (c.kind ≡ kinds.Um) ⊎ (c.kind ≡ kinds.Am)
    → all_left (flow_of c.kind c keys side) xs ++ queue (ends (reached c keys side xs)) ≡ all_submitted xs
leaves_in_order c keys side xs (inl k) =
    subst (λ (kind : Kind). Leaves kind c keys side xs) (sym k)
    (flow_order (flow_of kinds.Um c keys side) (pdcp.Um c.pdcp_bits) c.channel.lcid c.first keys side xs
    (λ e. let no : pdcp.Um c.pdcp_bits ≡ pdcp.Srb = e in cc) (um_begins c keys side))
leaves_in_order c keys side xs (inr k) =
    subst (λ (kind : Kind). Leaves kind c keys side xs) (sym k)
    (flow_order (flow_of kinds.Am c keys side) (pdcp.Am c.pdcp_bits) c.channel.lcid c.first keys side xs
    (λ e. let no : pdcp.Am c.pdcp_bits ≡ pdcp.Srb = e in cc) (am_begins c keys side))
