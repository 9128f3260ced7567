-- SDUs leave the queue in order.
use Rattle.std.proofs.Common.{◌≡◌, ◌≢◌, ℕ, zero, suc, ◌-◌, Bool, true, false, if◌then◌else◌, List, [], ◌∷◌, ◌++◌, map}
use Rattle.std.proofs.Common.{take, drop, Option, Some, None, append_assoc, subst, refl, ap, sym, ◌∙◌}
use Rattle.std.proofs.lemmas.List.{append-nil}
use Rattle.pdcp_pdu.specs.declared.PdcpKind.{PdcpKind}
use Rattle.pdcp_pdu.specs.declared.PdcpKind.TheVariants.{Srb, Um, Am}
use Rattle.pdcp_tx_store.specs.declared.given.Sent.{Sent}
use Rattle.pdcp_tx_store.specs.Waiting.{Waits}
use Rattle.pdcp_tx.specs.State.{State, submitted, took, took_owed, took_again, took_new, confirmed, reported}
use Rattle.pdcp_tx.specs.State.{reported_from, fms_count, after_late, is_overdue, restarted, waiting_on}
use Rattle.pdcp_tx.specs.Runs.{Submit, Take, Confirm, Report, Owe, Tick, Late}
use Rattle.law_pdcp.specs.OneEnd.Lives.{Step, Calls, SetDiscard, Restart, goes, run_pdcp_sender, first_sdu, new_behind}
use Rattle.law_pdcp.specs.OneEnd.Lives.{new_of}
use Rattle.law_pdcp.specs.OneEnd.Lives.{submits, submitted_in, leaves, left_in, queue}
use Rattle.law_pdcp.proofs.OneEnd.KindStays.{kind_stays}

abbrev sdus : List Waits → List (List ℕ)
sdus ws = map (λ w. w.sdu) ws

sdus_more : (xs : List Waits) (w : Waits) → sdus (xs ++ w ∷ []) ≡ sdus xs ++ w.sdu ∷ []
sdus_more [] w = refl
sdus_more (x ∷ xs) w = ap (λ l. x.sdu ∷ l) (sdus_more xs w)

-- the first leaves
first_leaves : (ws : List Waits) → first_sdu ws ++ sdus (drop 1 ws) ≡ sdus ws
first_leaves [] = refl
first_leaves (w ∷ ws) = refl

took_first : (s : State) (k : ℕ) (ws : List Waits) → s.waiting ≡ ws
    → first_sdu (take k ws) ++ queue (took_new (take k ws) s) ≡ sdus ws
took_first s zero ws e = ap sdus e
took_first s (suc k) [] e = ap sdus e
took_first s (suc k) (w ∷ ws) e = ap (λ l. w.sdu ∷ sdus (drop 1 l)) e

took_behind : (s : State) (ss : List Sent) → new_behind ss s ++ queue (took_again ss s) ≡ queue s
took_behind s [] = took_first s (s.bound - s.next) s.waiting refl
took_behind s (x ∷ xs) = refl

took_any : (s : State) (o : Option (List ℕ)) → new_of o s ++ queue (took_owed o s) ≡ queue s
took_any s None = took_behind s s.again
took_any s (Some r) = refl

late_any : (b : Bool) (ws : List Waits) → (if b then first_sdu ws else []) ++ sdus (if b then drop 1 ws else ws)
    ≡ sdus ws
late_any true ws = first_leaves ws
late_any false ws = refl

report_any : (s : State) (c : Option ℕ) (bitmap : List ℕ) → queue (reported_from c s bitmap) ≡ queue s
report_any s None bitmap = refl
report_any s (Some c) bitmap = refl

kept_waiting : (kind : PdcpKind) (ws : List Waits) → kind ≢ Srb → waiting_on kind ws ≡ ws
kept_waiting Srb ws h = absurd (h refl)
kept_waiting (Um bits) ws h = refl
kept_waiting (Am bits) ws h = refl

step : (s : State) (x : Step) → s.kind ≢ Srb → leaves s x ++ queue (goes s x) ≡ queue s ++ submits x
unfolding submitted took confirmed reported after_late restarted
step s (Calls (Submit sdu)) h = sdus_more s.waiting (record { sdu = sdu; born = s.clock })
step s (Calls Take) h = took_any s s.owed ∙ sym (append-nil (queue s))
step s (Calls (Confirm place)) h = sym (append-nil (queue s))
step s (Calls (Report fms bitmap)) h = report_any s (fms_count s.kind s.base fms) bitmap ∙ sym (append-nil (queue s))
step s (Calls (Owe report)) h = sym (append-nil (queue s))
step s (Calls Tick) h = sym (append-nil (queue s))
step s (Calls Late) h = late_any (is_overdue s) s.waiting ∙ sym (append-nil (queue s))
step s (SetDiscard ttis) h = sym (append-nil (queue s))
step s (Restart keys) h = ap sdus (kept_waiting s.kind s.waiting h) ∙ sym (append-nil (queue s))

pub in_order : (s : State) (xs : List Step) → s.kind ≢ Srb
    → left_in s xs ++ queue (run_pdcp_sender xs s) ≡ queue s ++ submitted_in xs
in_order s [] h = sym (append-nil (queue s))
in_order s (x ∷ xs) h =
    append_assoc (leaves s x) (left_in (goes s x) xs) (queue (run_pdcp_sender xs (goes s x)))
    ∙ ap (λ l. leaves s x ++ l) (in_order (goes s x) xs (subst (λ k. k ≢ Srb) (sym (kind_stays s x)) h))
    ∙ sym (append_assoc (leaves s x) (queue (goes s x)) (submitted_in xs))
    ∙ ap (λ l. l ++ submitted_in xs) (step s x h)
    ∙ append_assoc (queue s) (submits x) (submitted_in xs)
