-- What leaves a bearer's queue: what it takes for the first time, and what it discards.
use Rattle.std.proofs.Common.{◌≡◌, ◌-◌, ◌==◌, ℕ, nat_lt, if◌then◌else◌, Bool, true, false, inl, List, [], ◌∷◌, ◌++◌}
use Rattle.std.proofs.Common.{map, length, take, append-nil, append_assoc, refl, ap, sym, subst, ◌∙◌, arith}
use Rattle.std.proofs.lemmas.Bool.Decides.{nat_tests}
use Rattle.std.proofs.lemmas.Grind.{flat_map-append}
use Rattle.bearer.specs.declared.flow.Flow.{Flow}
use Rattle.bearer.specs.declared.flow.Flow.TheVariants.{Am}
use Rattle.bearer.specs.Hearing.{ticked, ticking}
use Rattle.bearer.specs.Acknowledged.Hearing.{settled_if, started_told}
use Rattle.bearer.specs.Acknowledged.State.{State, has_more, Work, work}
use Rattle.bearer.specs.Acknowledged.Timing.{Ticking, after_expiry, expires_if, counts, has_ended, ticks as ticked_by}
use Rattle.bearer.specs.Acknowledged.Timing.{ticked as am_ticked}
use Rattle.law_bearer.specs.AnyBearer.Calls.{Call, Submit, Take, Arrive, Expire, Tick, SetDiscard, Step, Calls, Restart}
use Rattle.law_bearer.specs.AnyBearer.Calls.{after, goes, ends}
use Rattle.law_bearer.specs.AnyBearer.Queue.{queue, off, news, drops, all_news, all_left}
use Rattle.bearer_pdcp.specs.Discarding.{without_late, late_told, after_tick as after_discards, tick_told}
use Rattle.bearer_pdcp.specs.Ends.{Ends}
use Rattle.bearer_types.specs.declared.event.Event.TheVariants.{Discard}
use Rattle.l2_types.specs.declared.event.Clock.{Clock}
use Rattle.l2_types.specs.declared.event.Clock.TheVariants.{Poll, Reorder, Prohibit}
use Rattle.pdcp_tx_store.specs.Waiting.{Waits}
use Rattle.law_words.specs.Lists.{IsSubsequence}
use Rattle.law_pdcp.proofs.OneEnd.Lists.{without_first, behind}
use Rattle.pdcp_tx.specs.State.{State as Sending, is_overdue, after_late, ticked as pdcp_ticked}
use Rattle.rlc_am_tx.specs.Machine.{settles}
use Rattle.law_bearer.specs.AmBearer.Lives.{restarts}
use Rattle.law_deliver.specs.AmFlow.Pair.{called}
use Rattle.law_deliver.specs.AmFlow.Ups.{discarded_in}
use Rattle.promises.specs.Events.{discards_in, discards_on}
use Rattle.law_deliver.proofs.AmFlow.Sending.{is_called}
use Rattle.law_deliver.proofs.AmChannel.Bearers.{IsSteady, called_steady, restarts_steady}
use Rattle.law_deliver.proofs.AmChannel.Ends.{all_discards}

-- ---- what is taken is of what leaves

skips : {A : Type 0} (zs ys xs : List A) → IsSubsequence ys xs → IsSubsequence ys (zs ++ xs)
skips [] ys xs h = h
skips (z ∷ zs) ys xs h = without_first ys z (zs ++ xs) (skips zs ys xs h)

pub front_thin : {A : Type 0} (xs ys : List A) → IsSubsequence xs (xs ++ ys)
front_thin [] ys = tt
front_thin (x ∷ xs) ys = inl (refl, front_thin xs ys)

pub news_leave : (xs : List Step) (f : Flow) → IsSubsequence (all_news f xs) (all_left f xs)
news_leave [] f = tt
news_leave (Calls c ∷ xs) f =
    let more = all_left (after f c) xs in
    subst (IsSubsequence (news f c ++ all_news (after f c) xs)) (sym (append_assoc (news f c) (drops f c) more))
    (behind (news f c) (all_news (after f c) xs) (drops f c ++ more)
    (skips (drops f c) (all_news (after f c) xs) more (news_leave xs (after f c))))
news_leave (Restart keys ∷ xs) f = news_leave xs (goes f (Restart keys))

-- ---- where no discard is told nothing is dropped

none_before : {A : Type 0} (xs ys : List A) → xs ++ ys ≡ [] → xs ≡ []
none_before [] ys q = refl
none_before (x ∷ xs) ys q = absurd cc

none_behind : {A : Type 0} (xs ys : List A) → xs ++ ys ≡ [] → ys ≡ []
none_behind [] ys q = q
none_behind (x ∷ xs) ys q = absurd cc

clock_pdcp : (clock : Clock) (b : State) → (after_expiry b clock).pdcp ≡ b.pdcp
unfolding after_expiry
clock_pdcp Poll b = refl
clock_pdcp Reorder b = refl
clock_pdcp Prohibit b = refl

counts_pdcp : (clock : Clock) (b : State) → (counts clock b).pdcp ≡ b.pdcp
counts_pdcp Poll b = refl
counts_pdcp Reorder b = refl
counts_pdcp Prohibit b = refl

ended_pdcp : (ended : Bool) (clock : Clock) (t : Ticking) → (expires_if ended clock t).bearer.pdcp ≡ t.bearer.pdcp
ended_pdcp true clock t = clock_pdcp clock t.bearer
ended_pdcp false clock t = refl

pub ticks_pdcp : (clock : Clock) (t : Ticking) → (ticked_by clock t).bearer.pdcp ≡ t.bearer.pdcp
ticks_pdcp clock t = ended_pdcp (has_ended clock t.bearer) clock (record t { bearer = counts clock t.bearer })
    ∙ counts_pdcp clock t.bearer

late_by : (late : Bool) (l lcid : ℕ) (w : Waits) (ws : List Waits) (s : Sending) → is_overdue s ≡ late → lcid ≡ l
    → discards_on l (late_told lcid (w ∷ ws) s) ≡ [] → (without_late (w ∷ ws) s).waiting ≡ s.waiting
late_by true l lcid w ws s e same q =
    let here : (lcid == l) ≡ true = grind (arith, nat_tests) in
    let more = late_told lcid ws (after_late s) in
    let told : (length w.sdu ∷ []) ++ discards_on l more ≡ [] =
    ap (λ (b : Bool). (if b then length w.sdu ∷ [] else []) ++ discards_on l more) (sym here)
    ∙ ap (λ (late : Bool). discards_on l (if late then Discard lcid (length w.sdu) ∷ more else [])) (sym e)
    ∙ q in
    absurd cc
late_by false l lcid w ws s e same q = rw e refl

late_off : (l lcid : ℕ) (ws : List Waits) (s : Sending) → lcid ≡ l → discards_on l (late_told lcid ws s) ≡ []
    → (without_late ws s).waiting ≡ s.waiting
late_off l lcid [] s same q = refl
late_off l lcid (w ∷ ws) s same q = late_by (is_overdue s) l lcid w ws s refl same q

settled_off : (settles' : Bool) (l : ℕ) (w : Work) → discards_on l (settled_if settles' w).events ≡ []
    → discards_on l w.events ≡ []
settled_off true l w q =
    let told = started_told w.pdcp.lcid (settles w.tx (has_more w.pdcp)) in
    none_before (discards_on l w.events) (discards_on l told) (sym (flat_map-append (discards_in l) w.events told) ∙ q)
settled_off false l w q = q

settled_pdcp : (settles' : Bool) (w : Work) → (settled_if settles' w).pdcp ≡ w.pdcp
settled_pdcp true w = refl
settled_pdcp false w = refl

tti_waits : (l : ℕ) (b : State) → b.pdcp.lcid ≡ l → discards_on l (ticking (Am b)) ≡ []
    → (am_ticked b).bearer.pdcp.tx.waiting ≡ b.pdcp.tx.waiting
unfolding ticking am_ticked after_discards tick_told
tti_waits l b own q =
    let t0 : Ticking = record { bearer = b; events = [] } in
    let t1 = ticked_by Poll t0 in
    let t2 = ticked_by Reorder t1 in
    let t3 = ticked_by Prohibit t2 in
    let d = t3.bearer.pdcp in
    let same : d ≡ b.pdcp = ticks_pdcp Prohibit t2 ∙ ticks_pdcp Reorder t1 ∙ ticks_pdcp Poll t0 in
    let told = late_told d.lcid d.tx.waiting (pdcp_ticked d.tx) in
    let settles' = nat_lt 0 (length told) in
    let w : Work = work (after_discards d) t3.bearer.tx (t3.events ++ told) in
    let none : discards_on l told ≡ [] =
    none_behind (discards_on l t3.events) (discards_on l told)
    (sym (flat_map-append (discards_in l) t3.events told) ∙ settled_off settles' l w q) in
    ap (λ (e : Ends). e.tx.waiting) (settled_pdcp settles' w)
    ∙ late_off l d.lcid d.tx.waiting (pdcp_ticked d.tx) (ap (λ (e : Ends). e.lcid) same ∙ own) none
    ∙ ap (λ (e : Ends). e.tx.waiting) same

none_off : (xs ys : List (List ℕ)) → ys ≡ xs → off xs ys ≡ []
none_off xs ys q =
    let same : length xs - length xs ≡ 0 = omega arith in
    ap (off xs) q ∙ ap (λ k. take k xs) same

drops_none : (l : ℕ) (b : State) (c : Call) → b.pdcp.lcid ≡ l → discarded_in l (Am b) c ≡ [] → drops (Am b) c ≡ []
unfolding ticked
drops_none l b (Submit sdu) own q = refl
drops_none l b (Take share held) own q = refl
drops_none l b (Arrive pdu) own q = refl
drops_none l b (Expire clock) own q = refl
drops_none l b Tick own q =
    none_off (queue (ends (Am b))) (queue (ends (after (Am b) Tick)))
    (ap (λ (ws : List Waits). map (λ w. w.sdu) ws) (tti_waits l b own q))
drops_none l b (SetDiscard ttis) own q = refl

pub all_taken : (bits l : ℕ) (xs : List Step) (b : State) → IsSteady bits l b → all_discards l (Am b) xs ≡ []
    → all_left (Am b) xs ≡ all_news (Am b) xs
all_taken bits l [] b h q = refl
all_taken bits l (Calls c ∷ xs) b h q =
    let is = is_called b c in
    let first : discarded_in l (Am b) c ≡ [] =
    none_before (discarded_in l (Am b) c) (all_discards l (after (Am b) c) xs) q in
    let more : all_discards l (Am (called b c)) xs ≡ [] =
    ap (λ (f : Flow). all_discards l f xs) (sym is)
    ∙ none_behind (discarded_in l (Am b) c) (all_discards l (after (Am b) c) xs) q in
    let rest : all_left (Am (called b c)) xs ≡ all_news (Am (called b c)) xs =
    all_taken bits l xs (called b c) (called_steady bits l b c h) more in
    ap (λ (ds : List (List ℕ)). (news (Am b) c ++ ds) ++ all_left (after (Am b) c) xs)
    (drops_none l b c h.between.own first)
    ∙ ap (λ (ns : List (List ℕ)). ns ++ all_left (after (Am b) c) xs) (append-nil (news (Am b) c))
    ∙ ap (λ (later : List (List ℕ)). news (Am b) c ++ later) (ap (λ (f : Flow). all_left f xs) is ∙ rest
    ∙ sym (ap (λ (f : Flow). all_news f xs) is))
all_taken bits l (Restart keys ∷ xs) b h q =
    let r = restarts_steady bits l b keys h in
    let rest : all_left (Am (restarts b keys)) xs ≡ all_news (Am (restarts b keys)) xs =
    all_taken bits l xs (restarts b keys) r.steady (ap (λ (f : Flow). all_discards l f xs) (sym r.left) ∙ q) in
    ap (λ (f : Flow). all_left f xs) r.left ∙ rest ∙ sym (ap (λ (f : Flow). all_news f xs) r.left)
