-- What flows say of what RLC confirms, and of what comes, is what their histories say.
use Rattle.std.proofs.Common.{◌≡◌, ℕ, Bool, true, false, List, ◌∷◌, Option, Some, None, ap, sym, ◌∙◌, subst}
use Rattle.std.proofs.Common.{if◌then◌else◌}
use Rattle.l2_types.specs.declared.side.Side.{Side}
use Rattle.bearer_types.specs.declared.config.BearerConfig.{BearerConfig}
use Rattle.air_text.specs.Groups.{Group}
use Rattle.journal_account.specs.FlowConfirmed.{is_confirmed_kept}
use Rattle.journal_account.proofs.Accounts.{accounts_are_true}
use Rattle.journal_lives.specs.FlowLives.{FlowLives, lives_of}
use Rattle.journal_lives.specs.LifeEvents.{LifeEvent, running, AreLives}
use Rattle.journal_lives.proofs.LivesTold.{histories as are_histories, lives_are_true}
use Rattle.journal_flows.specs.Gathering.{Journal, MayTake, behind_end, within as told_within, behind as told_behind}
use Rattle.journal_flows.specs.Gathering.{is_handover}
use Rattle.journal_flows.specs.FlowsTold.{Histories, no_events, histories as flow_histories, flows_told, flows_within}
use Rattle.journal_flows.specs.Accounts.{Keeping, account_at}
use Rattle.journal_flows.specs.Laws.{bearer_on, account_by}
use Rattle.journal_flows.proofs.Groups.{flows_are_told, histories_are_lives}
use Rattle.journal_given.specs.Supplies.{histories, accounts}
use Rattle.journal_given.specs.Giving.{may_take_by, given_within, all_given}
use Rattle.journal_given.specs.Laws.{SaysSo, SaysBy, FlowsSaySo}
use Rattle.journal_given.proofs.Ties.{flows_are_tied}

says_so : (most first : ℕ) (es : List LifeEvent) → AreLives es → SaysSo first es (Some (lives_of most first es))
says_so most first es h =
    let told = lives_are_true most first es h in
    record {
      confirmed = λ k.
          ap (is_confirmed_kept k) told.account
          ∙ (accounts_are_true most (running es) (are_histories es h)).confirmed k;
      sequenced = λ k. sym (told.sequenced k);
      next = told.next;
      ascend = told.ascend;
      beyond = told.beyond;
    }

says_by : (bearer : Option BearerConfig) (es : List LifeEvent) → AreLives es → (flow : Option FlowLives)
    → flow ≡ account_by bearer es → SaysBy bearer es flow
says_by None es h flow is = tt
says_by (Some config) es h flow is = λ acked.
    subst (SaysSo config.first es)
    (sym (is ∙ ap (λ (b : Bool). if b then Some (lives_of config.tx.max_retx config.first es) else None) acked))
    (says_so config.tx.max_retx config.first es h)

lives_within : (may : MayTake) (now : Group) (past : List Group) (side : Side) (l : ℕ)
    → AreLives (flows_within may now past side l)
lives_within may now past side l =
    by (is_handover now.line) (told_within flow_histories may now past (told_behind flow_histories no_events may past))
    (histories_are_lives may (now ∷ past) side l)
  where
    by : (b : Bool) (j : Journal Histories) → AreLives ((behind_end flow_histories b j).flows.acked side l)
        → AreLives (j.flows.acked side l)
    by true j h = h.1
    by false j h = h

pub flows_say_so : FlowsSaySo
flows_say_so past side lcid low = record {
  behind =
      let may = may_take_by histories past in
      says_by (bearer_on lcid past) (flows_told (may_take_by histories past) past side lcid)
      (histories_are_lives (may_take_by histories past) past side lcid)
      (account_at side lcid (all_given accounts past).kept.journal.flows)
      (ap (λ (j : Keeping). account_at side lcid j.journal.flows) (flows_are_tied past).behind
      ∙ (flows_are_told (may_take_by histories past) past side lcid low).behind);
  within = λ now.
      says_by (bearer_on lcid (now ∷ past))
      (flows_within (may_take_by histories (now ∷ past)) now past side lcid)
      (lives_within (may_take_by histories (now ∷ past)) now past side lcid)
      (account_at side lcid (given_within accounts now (all_given accounts past)).kept.journal.flows)
      (ap (λ (j : Keeping). account_at side lcid j.journal.flows) ((flows_are_tied past).within now)
      ∙ (flows_are_told (may_take_by histories (now ∷ past)) past side lcid low).within now);
}
