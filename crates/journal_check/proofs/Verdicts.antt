-- The word that is told of groups is the first that isn't true of them, and none where all are.
use Rattle.std.proofs.Common.{◌≡◌, ◌↔◌, Bool, true, false, not, ◌&&◌, if◌then◌else◌, List, [], ◌∷◌, ◌++◌, Option}
use Rattle.std.proofs.Common.{Some, None, refl, ap, sym, ◌∙◌, subst}
use Rattle.std.specs.List.{All}
use Rattle.std.proofs.lemmas.Bool.{and_parts, and_from, false≢true}
use Rattle.std.proofs.lemmas.List.Elements.{All-nil, All-cons}
use Rattle.air_text.specs.Groups.{Group}
use Rattle.journal_air.specs.Checking as air
use Rattle.journal_air.proofs.Groups.{exact as air_exact}
use Rattle.journal_form.specs.Checking as form
use Rattle.journal_form.proofs.Exact.{exact as form_exact}
use Rattle.journal_takes.specs.FlowTakes.{FlowTakes}
use Rattle.journal_given.specs.Supplies.{accounts}
use Rattle.journal_given.specs.Giving as given
use Rattle.journal_given.proofs.Exact.{verdict_is_exact as given_exact}
use Rattle.journal_stream.specs.SentOctets.{SentOctets}
use Rattle.journal_sent.specs.SentPdus as pdus
use Rattle.journal_sent.specs.Sending as sent
use Rattle.journal_sent.proofs.Exact.{verdicts_are_exact as sent_verdicts}
use Rattle.journal_queues.specs.QueueChecking as queues
use Rattle.journal_queues.proofs.Exact.{exact as queues_exact}
use Rattle.journal_failure.specs.Checking as failure
use Rattle.journal_failure.proofs.Exact.{exact as failure_exact}
use Rattle.journal_status.specs.StatusChecking as status
use Rattle.journal_status.proofs.StatusExact.{exact as status_exact}
use Rattle.journal_delivered.specs.DeliveryChecking as delivered
use Rattle.journal_delivered.proofs.Exact.{exact as delivered_exact}
use Rattle.journal_edge.specs.EdgeChecking as edge
use Rattle.journal_edge.proofs.Exact.{verdict_exact as edge_exact}
use Rattle.journal_check.specs.declared.fault.CheckWhy.{CheckWhy}
use Rattle.journal_check.specs.declared.fault.CheckWhy.TheVariants as words
use Rattle.journal_check.specs.Checked.{AreRuled}
use Rattle.journal_check.specs.Judging.{Judging, all_judging, is_sent, is_formed, word_of}
use Rattle.journal_check.specs.Soundness.{may_take, IsSent, IsFormed, Holds, group_words, AllHold, FailsFirst}
use Rattle.journal_check.proofs.Folds.{air_is, form_is, queues_is}
use Rattle.journal_check.proofs.MayTakes.{says}
use Rattle.journal_check.proofs.Ruled.{layouts, bearers_new}
use Rattle.journal_check.proofs.Shared.{all_shared}
use Rattle.journal_check.proofs.ToldFolds.{failure_is, status_is, delivered_is, sent_is}

-- ---- the first of some words that isn't right

abbrev first_wrong : (CheckWhy → Bool) → List CheckWhy → Option CheckWhy
first_wrong right [] = None
first_wrong right (w ∷ ws) = if right w then first_wrong right ws else Some w

none_wrong : (right : CheckWhy → Bool) (P : CheckWhy → Type 0) (ws : List CheckWhy)
    → ((w : CheckWhy) → right w ≡ true → P w) → first_wrong right ws ≡ None → All P ws
none_wrong right P [] sound e = All-nil P
none_wrong right P (w ∷ ws) sound e = by (right w) refl e (none_wrong right P ws sound)
  where
    by : (b : Bool) → right w ≡ b → (if b then first_wrong right ws else Some w) ≡ None
        → (first_wrong right ws ≡ None → All P ws) → All P (w ∷ ws)
    by true is e rest = All-cons P w ws (sound w is) (rest e)
    by false is e rest = cc

record IsFirst (P : CheckWhy → Type 0) (ws : List CheckWhy) (why : CheckWhy) : Type 0 where
  before : List CheckWhy
  behind : List CheckWhy
  words_are : ws ≡ before ++ why ∷ behind
  hold : All P before
  fails : P why → ⊥

one_wrong : (right : CheckWhy → Bool) (P : CheckWhy → Type 0) (ws : List CheckWhy) (why : CheckWhy)
    → ((w : CheckWhy) → (right w ≡ true) ↔ P w) → first_wrong right ws ≡ Some why → IsFirst P ws why
one_wrong right P [] why exact e = cc
one_wrong right P (w ∷ ws) why exact e = by (right w) refl e (one_wrong right P ws why exact)
  where
    by : (b : Bool) → right w ≡ b → (if b then first_wrong right ws else Some w) ≡ Some why
        → (first_wrong right ws ≡ Some why → IsFirst P ws why) → IsFirst P (w ∷ ws) why
    by true is e rest =
        let r = rest e in
        record {
          before = w ∷ r.before;
          behind = r.behind;
          words_are = ap (λ (xs : List CheckWhy). w ∷ xs) r.words_are;
          hold = All-cons P w r.before ((exact w).0 is) r.hold;
          fails = r.fails;
        }
    by false is e rest =
        let same : w ≡ why = cc in
        record {
          before = [];
          behind = ws;
          words_are = ap (λ (x : CheckWhy). x ∷ ws) same;
          hold = All-nil P;
          fails = λ h. false≢true (sym is ∙ (exact w).1 (subst P (sym same) h));
        }

-- ---- what is kept tells so

abbrev right_of : Judging → CheckWhy → Bool
right_of j words.Sent = is_sent j.sends
right_of j words.Carried = j.blocks.air.right
right_of j words.Delivered = j.flows.delivered.right
right_of j words.Edge = j.edge.right
right_of j words.Failure = j.flows.failure.right
right_of j words.Status = j.flows.status.right
right_of j words.Form = is_formed j
right_of j why = true

turn : (b : Bool) (x y z : Option CheckWhy) → y ≡ z → (if not b then x else y) ≡ (if b then z else x)
turn true x y z h = h
turn false x y z h = refl

word_is : (j : Judging) → word_of j ≡ first_wrong (right_of j) group_words
word_is j =
    turn (is_sent j.sends) (Some words.Sent) _ _ (turn j.blocks.air.right (Some words.Carried) _ _
    (turn j.flows.delivered.right (Some words.Delivered) _ _ (turn j.edge.right (Some words.Edge) _ _
    (turn j.flows.failure.right (Some words.Failure) _ _ (turn j.flows.status.right (Some words.Status) _ _
    (turn (is_formed j) (Some words.Form) None None refl))))))

-- ---- each word

-- where a checker's state is its fold, its verdict is exact
along : {C : Type 0} (right : C → Bool) (here there : C) (P : Type 0) → here ≡ there → (right there ≡ true) ↔ P
    → (right here ≡ true) ↔ P
along right here there P same exact =
    (λ h. exact.0 (sym (ap right same) ∙ h), λ h. ap right same ∙ exact.1 h)

sent_exact : (past : List Group) → AreRuled past → (is_sent (all_judging past).sends ≡ true) ↔ IsSent past
sent_exact past ruled =
    let s = (all_judging past).sends in
    let takes = along (λ (right : Bool). right) s.given.right (given.all_given accounts past).right _
    (ap (λ (g : given.Giving FlowTakes). g.right) (all_shared (may_take past) past (says past)).given)
    (given_exact past) in
    let leave = along (λ (c : queues.Checking). c.right) s.queues (queues.all_checked past) _ (queues_is past)
    (queues_exact past (layouts past ruled) (bearers_new past ruled)) in
    let carry = along (λ (c : sent.Sending SentOctets). c.sent) s.sent (sent.all_sending pdus.accounts accounts past) _
    (sent_is (may_take past) past (says past)) (sent_verdicts past).0 in (
      λ h.
          let both = and_parts s.given.right (s.queues.right && s.sent.sent) h in
          let rest = and_parts s.queues.right s.sent.sent both.1 in
          let in_order = leave.0 rest.0 in
          record { takes = takes.0 both.0; sdus = in_order.0; signals = in_order.1; pdus = carry.0 rest.1 },
      λ h. and_from s.given.right (s.queues.right && s.sent.sent) (takes.1 h.takes)
          (and_from s.queues.right s.sent.sent (leave.1 (h.sdus, h.signals)) (carry.1 h.pdus)),
    )

formed_exact : (past : List Group) → (is_formed (all_judging past) ≡ true) ↔ IsFormed past
formed_exact past =
    let j = all_judging past in
    let blocks = along form.is_right j.blocks.form (form.all_checked past) _ (form_is past) (form_exact past) in
    let shapes = along (λ (c : sent.Sending SentOctets). c.shaped) j.sends.sent
    (sent.all_sending pdus.accounts accounts past) _ (sent_is (may_take past) past (says past))
    (sent_verdicts past).1 in (
      λ h.
          let both = and_parts (form.is_right j.blocks.form) j.sends.sent.shaped h in
          record { blocks = blocks.0 both.0; shapes = shapes.0 both.1 },
      λ h. and_from (form.is_right j.blocks.form) j.sends.sent.shaped (blocks.1 h.blocks) (shapes.1 h.shapes),
    )

exact : (past : List Group) → AreRuled past → (w : CheckWhy) → (right_of (all_judging past) w ≡ true) ↔ Holds w past
exact past ruled words.Sent = sent_exact past ruled
exact past ruled words.Carried = along (λ (c : air.Checking). c.right) (all_judging past).blocks.air
    (air.all_checked past) _ (air_is past) (air_exact past)
exact past ruled words.Delivered = along (λ (c : delivered.Checking). c.right) (all_judging past).flows.delivered
    (delivered.all_checked (may_take past) past) _ (delivered_is (may_take past) past (says past))
    (delivered_exact (may_take past) past)
exact past ruled words.Edge = along (λ (c : edge.EdgeChecking). c.right) (all_judging past).edge
    (edge.all_beside (may_take past) past).checked _ (all_shared (may_take past) past (says past)).edge
    (edge_exact (may_take past) past)
exact past ruled words.Failure = along (λ (c : failure.Checking). c.right) (all_judging past).flows.failure
    (failure.all_checked (may_take past) past) _ (failure_is (may_take past) past (says past))
    (failure_exact (may_take past) past)
exact past ruled words.Status = along (λ (c : status.Checking). c.right) (all_judging past).flows.status
    (status.all_checked (may_take past) past) _ (status_is (may_take past) past (says past))
    (status_exact (may_take past) past)
exact past ruled words.Form = formed_exact past
exact past ruled why = (λ h. tt, λ h. refl)

-- ---- the word

pub all_right : (past : List Group) → AreRuled past → word_of (all_judging past) ≡ None → AllHold past
all_right past ruled none =
    none_wrong (right_of (all_judging past)) (λ w. Holds w past) group_words (λ w. (exact past ruled w).0)
    (sym (word_is (all_judging past)) ∙ none)

pub first_fails : (past : List Group) (why : CheckWhy) → AreRuled past → word_of (all_judging past) ≡ Some why
    → FailsFirst past why
first_fails past why ruled told =
    let r = one_wrong (right_of (all_judging past)) (λ w. Holds w past) group_words why (exact past ruled)
    (sym (word_is (all_judging past)) ∙ told) in
    record {
      before = r.before;
      behind = r.behind;
      words_are = r.words_are;
      hold = r.hold;
      fails = r.fails;
    }
