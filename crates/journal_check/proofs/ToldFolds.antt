-- What is kept while a journal is judged is what each checker keeps that reads the accounts of flows.
use Rattle.std.proofs.Common.{◌≡◌, List, [], ◌∷◌, refl, ap, ◌∙◌}
use Rattle.air_record.specs.declared.record.Record.{Record}
use Rattle.air_text.specs.Groups.{Group}
use Rattle.journal_takes.specs.FlowTakes.{FlowTakes}
use Rattle.journal_stream.specs.SentOctets.{SentOctets}
use Rattle.journal_flows.specs.Gathering.{MayTake}
use Rattle.journal_flows.specs.Accounts.{Keeping, kept_within, all_kept, after_line as line_kept}
use Rattle.journal_flows.specs.Accounts.{after_record as record_kept, after_group as group_kept}
use Rattle.journal_given.specs.Supplies.{accounts}
use Rattle.journal_given.specs.Giving as given
use Rattle.journal_given.proofs.Taking.{settled_kept}
use Rattle.journal_sent.specs.SentPdus as pdus
use Rattle.journal_sent.specs.Sending as sent
use Rattle.journal_failure.specs.Checking as failure
use Rattle.journal_status.specs.StatusChecking as status
use Rattle.journal_delivered.specs.DeliveryChecking as delivered
use Rattle.journal_edge.specs.EdgeChecking.{Beside, beside_line, beside_record, beside_records, all_beside}
use Rattle.journal_check.specs.Judging.{Judging, judging_line, judging_record, judging_records, judging_within}
use Rattle.journal_check.specs.Judging.{all_judging}
use Rattle.journal_check.proofs.Alike.{failure_same, status_same, status_end_same, delivered_same, sent_same}
use Rattle.journal_check.proofs.Alike.{sent_end_same}
use Rattle.journal_check.proofs.MayTakes.{begun, SaysIn, Says, kept_more, kept_behind}
use Rattle.journal_check.proofs.Shared.{IsShared, same_settled, given_more, same_more, record_shared, given_end}
use Rattle.journal_check.proofs.Shared.{same_end, says_so, line_is_shared, within_is_shared, inside_same, ended_same}

-- ---- failures

failure_records : (told : List Record) (j : Judging)
    → (judging_records told j).flows.failure ≡ failure.checked told j.flows.failure
failure_records [] j = refl
failure_records (one ∷ told) j = failure_records told (judging_record one j)

pub failure_is : (may : MayTake) (past : List Group) → Says may past
    → (all_judging past).flows.failure ≡ failure.all_checked may past
failure_is may [] says = refl
failure_is may (now ∷ past) says =
    let j = judging_within now (all_judging past) in
    let k = kept_within may now past (all_kept may past) in
    failure_same j.sends.given.kept k j.flows.failure (inside_same may now past says)
    ∙ ap (failure.after_group k)
    (failure_records now.events (judging_line now.line (all_judging past))
    ∙ ap (λ (c : failure.Checking). failure.checked now.events (failure.after_line now.line c))
    (failure_is may past says.1))

-- ---- STATUS PDUs, each beside the accounts behind its record

status_records : (may : MayTake) (now : Group) (past : List Group) → SaysIn may now past → (before told : List Record)
    (j : Judging) (g : given.Giving FlowTakes) (b : Beside)
    → g ≡ given.behind_records accounts before (begun now past) → IsShared j g b
    → (judging_records told j).flows.status ≡ status.checked may past before told g.kept j.flows.status
status_records may now past says before [] j g b is h = refl
status_records may now past says before (one ∷ told) j g b is h =
    let more = may past before one in
    let after = given.after_record accounts one g in
    let so = says_so may now past says before one g is in
    status_records may now past says (one ∷ before) told (judging_record one j) (given.after_record accounts one g)
    (beside_record (may past before one) one b) (ap (given.after_record accounts one) is)
    (record_shared more one j g b so h)
    ∙ ap (λ (c : status.Checking). status.checked may past (one ∷ before) told
    (given.after_record accounts one g).kept c)
    (ap (λ (x : given.Giving FlowTakes). status.after_record x.kept one j.flows.status)
    (given_more more one j g b so h)
    ∙ status_same one (record_kept more one b.kept) after.kept j.flows.status (same_more more one g b.kept so h.same))
    ∙ ap (λ (k : Keeping). status.checked may past (one ∷ before) told k (status.after_record k one j.flows.status))
    (kept_more may now past before one g says is)

pub status_is : (may : MayTake) (past : List Group) → Says may past
    → (all_judging past).flows.status ≡ status.all_checked may past
status_is may [] says = refl
status_is may (now ∷ past) says =
    let j = judging_within now (all_judging past) in
    let k = kept_within may now past (all_kept may past) in
    status_end_same j.sends.given.kept k j.flows.status (inside_same may now past says)
    ∙ ap (status.after_group (kept_within may now past (all_kept may past)))
    (status_records may now past says.0 [] now.events (judging_line now.line (all_judging past)) (begun now past)
    (beside_line now.line (all_beside may past)) refl (line_is_shared may now past says.1)
    ∙ ap (λ (k : Keeping). status.checked may past [] now.events (line_kept now.line k)
    (status.after_line now.line (all_judging past).flows.status)) (kept_behind may past says.1)
    ∙ ap (λ (c : status.Checking). status.checked may past [] now.events (line_kept now.line (all_kept may past))
    (status.after_line now.line c)) (status_is may past says.1))

-- ---- what goes up

delivered_records : (told : List Record) (j : Judging)
    → (judging_records told j).flows.delivered ≡ delivered.checked told j.flows.delivered
delivered_records [] j = refl
delivered_records (one ∷ told) j = delivered_records told (judging_record one j)

pub delivered_is : (may : MayTake) (past : List Group) → Says may past
    → (all_judging past).flows.delivered ≡ delivered.all_checked may past
delivered_is may [] says = refl
delivered_is may (now ∷ past) says =
    let j = judging_within now (all_judging past) in
    delivered_same (given.after_group accounts j.sends.given).kept (all_kept may (now ∷ past)) j.flows.delivered
    (ended_same may now past says)
    ∙ ap (delivered.after_group (all_kept may (now ∷ past)))
    (delivered_records now.events (judging_line now.line (all_judging past))
    ∙ ap (λ (c : delivered.Checking). delivered.checked now.events (delivered.after_line now.line c))
    (delivered_is may past says.1))

-- ---- what is sent of what PDCP gives RLC

sent_records : (may : MayTake) (now : Group) (past : List Group) → SaysIn may now past → (before told : List Record)
    (j : Judging) (g : given.Giving FlowTakes) (b : Beside)
    → g ≡ given.behind_records accounts before (begun now past) → IsShared j g b
    → (judging_records told j).sends.sent ≡ sent.records_told pdus.accounts accounts told g j.sends.sent
sent_records may now past says before [] j g b is h = refl
sent_records may now past says before (one ∷ told) j g b is h =
    let more = may past before one in
    let before' = given.settled accounts one g in
    sent_records may now past says (one ∷ before) told (judging_record one j) (given.after_record accounts one g)
    (beside_record (may past before one) one b) (ap (given.after_record accounts one) is)
    (record_shared more one j g b (says_so may now past says before one g is) h)
    ∙ ap (sent.records_told pdus.accounts accounts told (given.after_record accounts one g))
    (ap (λ (x : given.Giving FlowTakes). sent.after_record pdus.accounts accounts one (given.settled accounts one x)
    j.sends.sent) h.given
    ∙ ap (λ (x : given.Giving FlowTakes). sent.after_record pdus.accounts accounts one x j.sends.sent)
    (settled_kept accounts one b.kept g)
    ∙ sent_same one b.kept before' j.sends.sent (same_settled one b.kept g h.same))

pub sent_is : (may : MayTake) (past : List Group) → Says may past
    → (all_judging past).sends.sent ≡ sent.all_sending pdus.accounts accounts past
sent_is may [] says = refl
sent_is may (now ∷ past) says =
    let j = judging_within now (all_judging past) in
    let b = beside_records may past [] now.events (beside_line now.line (all_beside may past)) in
    let g = given.given_within accounts now (given.all_given accounts past) in
    let h = within_is_shared may now past says in
    ap (λ (x : given.Giving FlowTakes). sent.after_group pdus.accounts x j.sends.sent) (given_end j g b h)
    ∙ sent_end_same (group_kept b.kept) (given.all_given accounts (now ∷ past)) j.sends.sent
    (same_end g b.kept h.same)
    ∙ ap (λ (s : sent.Sending SentOctets). sent.after_group pdus.accounts (given.all_given accounts (now ∷ past)) s)
    (sent_records may now past says.0 [] now.events (judging_line now.line (all_judging past)) (begun now past)
    (beside_line now.line (all_beside may past)) refl (line_is_shared may now past says.1)
    ∙ ap (λ (s : sent.Sending SentOctets). sent.sending_within pdus.accounts accounts now
    (given.all_given accounts past) s) (sent_is may past says.1))
