-- The sender's laws over lives.
use Rattle.std.proofs.Common.{◌≡◌, ◌≤◌, ℕ, ◌+◌, ◌-◌, Bool, true, false, if◌then◌else◌, List, [], ◌∷◌, ◌++◌, map, take}
use Rattle.std.proofs.Common.{Option, Some, None, subst, refl, ap, sym, arith}
use Rattle.eps_sec.specs.declared.Keys.{Keys}
use Rattle.l2_num.specs.Ascending.{AreBetween}
use Rattle.pdcp_pdu.specs.declared.PdcpKind.{PdcpKind}
use Rattle.pdcp_pdu.specs.declared.PdcpKind.TheVariants.{Srb, Um, Am}
use Rattle.pdcp_pdu.specs.Kinds.{is_am}
use Rattle.pdcp_sec.specs.Protection.{Protection}
use Rattle.pdcp_tx_store.specs.declared.given.Sent.{Sent}
use Rattle.pdcp_tx_store.specs.declared.given.Entry.TheVariants.{Data}
use Rattle.pdcp_tx_store.specs.Waiting.{Waits}
use Rattle.pdcp_tx_store.specs.Given.{acked_at, entry_at, heard, untold, trimmed, data_of}
use Rattle.pdcp_tx.specs.State.{State, start, sent, submitted, took, took_owed, took_again, took_new, confirmed}
use Rattle.pdcp_tx.specs.State.{reported, reported_from, fms_count, after_late, restarted, next_from, kept_again}
use Rattle.pdcp_tx.specs.Runs.{Submit, Take, Confirm, Report, Owe, Tick, Late, IsOrdered}
use Rattle.law_pdcp.specs.OneEnd.Lives.{Step, Calls, SetDiscard, Restart, goes, run_pdcp_sender}
use Rattle.law_words.specs.Lists.{IsSubsequence}
use Rattle.law_pdcp.proofs.OneEnd.Lists.{thinner}
use Rattle.law_pdcp.proofs.OneEnd.Thinning.{named, names, In, thin_in, lower, higher, grows, of, of_again, of_new}
use Rattle.law_pdcp.proofs.OneEnd.Thinning.{of_own, trims, of_acked, hears, unackeds}

-- ---- order

abbrev pub end_of : Bool → ℕ → ℕ
end_of b next = if b then next else 0

-- the COUNTs of a state, below an end
abbrev pub Holds : State → ℕ → Type 0
Holds s end = In 0 (of s.given.entries s.again) end

-- what a step has to keep
abbrev pub Stays : State → Type 0
Stays s = Holds s (end_of (is_am s.kind) s.next)

new_in : (s : State) (ws : List Waits) (b : Bool) → is_am s.kind ≡ b → s.again ≡ [] → Holds s (end_of b s.next)
    → Stays (took_new ws s)
new_in s [] b k a h = rw k h
new_in s (w ∷ ws) true k a h =
    rw (k, a) (subst (λ l. In 0 l (s.next + 1)) (sym (of_new s.given.entries (sent s.next w.sdu false)))
    (grows 0 (of s.given.entries []) (named (sent s.next w.sdu false))
    (subst (λ l. In 0 (of s.given.entries l) s.next) a h)))
new_in s (w ∷ ws) false k a h = rw k h

again_in : (s : State) (ss : List Sent) → s.again ≡ ss → Stays s → Stays (took_again ss s)
again_in s [] a h = new_in s (take (s.bound - s.next) s.waiting) (is_am s.kind) refl a h
again_in s (x ∷ xs) a h =
    thin_in 0 (of (trimmed (s.given.entries ++ Data x ∷ [])) xs) (of (s.given.entries ++ Data x ∷ []) xs)
    (end_of (is_am s.kind) s.next) (trims (s.given.entries ++ Data x ∷ []) xs)
    (subst (λ l. In 0 l (end_of (is_am s.kind) s.next)) (sym (of_again s.given.entries x xs))
    (subst (λ l. In 0 (of s.given.entries l) (end_of (is_am s.kind) s.next)) a h))

took_in : (s : State) (o : Option (List ℕ)) → Stays s → Stays (took_owed o s)
took_in s None h = again_in s s.again refl h
took_in s (Some r) h = subst (λ l. In 0 l (end_of (is_am s.kind) s.next)) (sym (of_own s.given.entries s.again)) h

reported_in : (c : Option ℕ) (s : State) (bitmap : List ℕ) → Stays s → Stays (reported_from c s bitmap)
reported_in None s bitmap h = h
reported_in (Some c) s bitmap h =
    thin_in 0 (of (trimmed (map (heard c bitmap) s.given.entries)) (untold c bitmap s.again))
    (of s.given.entries s.again) (end_of (is_am s.kind) s.next)
    (thinner (of (trimmed (map (heard c bitmap) s.given.entries)) (untold c bitmap s.again))
    (of (map (heard c bitmap) s.given.entries) (untold c bitmap s.again)) (of s.given.entries s.again)
    (trims (map (heard c bitmap) s.given.entries) (untold c bitmap s.again)) (hears c bitmap s.given.entries s.again)) h

-- what a life takes again is left of what was taken and may be taken again
pub again_thin : (s : State) → IsSubsequence (names (kept_again s)) (of s.given.entries s.again)
again_thin s = unackeds (data_of s.given.entries ++ s.again)

next_end : (kind : PdcpKind) (next : ℕ) → end_of (is_am kind) (next_from kind next) ≡ end_of (is_am kind) next
next_end Srb next = refl
next_end (Um bits) next = refl
next_end (Am bits) next = refl

restarted_in : (s : State) (keys : Keys) → Stays s → Stays (restarted s keys)
unfolding restarted
restarted_in s keys h =
    rw (next_end s.kind s.next)
    (thin_in 0 (names (kept_again s)) (of s.given.entries s.again) (end_of (is_am s.kind) s.next) (again_thin s) h)

pub goes_in : (s : State) (x : Step) → Stays s → Stays (goes s x)
unfolding submitted took confirmed reported after_late
goes_in s (Calls (Submit sdu)) h = h
goes_in s (Calls Take) h = took_in s s.owed h
goes_in s (Calls (Confirm place)) h =
    thin_in 0 (of (trimmed (acked_at (entry_at s.given place) s.given.entries (place - s.given.gone))) s.again)
    (of (acked_at (entry_at s.given place) s.given.entries (place - s.given.gone)) s.again)
    (end_of (is_am s.kind) s.next)
    (trims (acked_at (entry_at s.given place) s.given.entries (place - s.given.gone)) s.again)
    (subst (λ l. In 0 l (end_of (is_am s.kind) s.next)) (sym (of_acked s.given place s.again)) h)
goes_in s (Calls (Report fms bitmap)) h = reported_in (fms_count s.kind s.base fms) s bitmap h
goes_in s (Calls (Owe report)) h = h
goes_in s (Calls Tick) h = h
goes_in s (Calls Late) h = h
goes_in s (SetDiscard ttis) h = h
goes_in s (Restart keys) h = restarted_in s keys h

stays : (xs : List Step) (s : State) → Stays s → Stays (run_pdcp_sender xs s)
stays [] s h = h
stays (x ∷ xs) s h = stays xs (goes s x) (goes_in s x h)

few : (b : Bool) (next : ℕ) → end_of b next ≤ next
few true next = omega arith
few false next = omega arith

behind : (low : ℕ) (ss rest : List Sent) (end : ℕ) → In low (names (ss ++ rest)) end → In low (names rest) end
behind low [] rest end h = h
behind low (n ∷ ns) rest end h =
    lower low (n.count + 1) (names rest) end (omega (arith, h.0)) (behind (n.count + 1) ns rest end h.1)

pub counts_of_names : (ss : List Sent) → map (λ x. x.count) (names ss) ≡ map (λ x. x.count) ss
counts_of_names [] = refl
counts_of_names (s ∷ ss) = ap (λ (l : List ℕ). s.count ∷ l) (counts_of_names ss)

orders : (s : State) → Stays s → IsOrdered s
orders s h =
    subst (λ l. AreBetween 0 l s.next) (counts_of_names s.again)
    (behind 0 (data_of s.given.entries) s.again s.next
    (higher 0 (of s.given.entries s.again) (end_of (is_am s.kind) s.next) s.next (few (is_am s.kind) s.next) h))

pub begins : (kind : PdcpKind) (p : Protection) (first : ℕ) → Stays (start kind p first)
unfolding start
begins kind p first = omega arith

pub lives_are_ordered : (kind : PdcpKind) (p : Protection) (first : ℕ) (steps : List Step)
    → IsOrdered (run_pdcp_sender steps (start kind p first))
lives_are_ordered kind p first steps =
    orders (run_pdcp_sender steps (start kind p first)) (stays steps (start kind p first) (begins kind p first))
