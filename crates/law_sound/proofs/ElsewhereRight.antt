-- Where a group tells no `fail` record and no `drop` record of a STATUS that is ignored, on a channel without an
-- acknowledged bearer, these records are right, as their checkers ask it.
use Rattle.std.proofs.Common.{◌≡◌, ℕ, ◌+◌, Bool, true, false, cond, if◌then◌else◌, Option, Some, None, List, [], ◌∷◌}
use Rattle.std.proofs.Common.{◌++◌, length, arith, refl, ap, sym, subst, ◌∙◌}
use Rattle.std.specs.List.{filter}
use Rattle.std.specs.Prelude.{MatchOption}
use Rattle.air_record.specs.declared.record.Record.{Record}
use Rattle.air_text.specs.Groups.{Group}
use Rattle.bearer_types.specs.declared.config.BearerConfig.{BearerConfig}
use Rattle.l2_types.specs.declared.side.Side.{Side}
use Rattle.journal_account.specs.Acked.{ignored_in}
use Rattle.journal_failure.specs.RightFailure.{AreFailsOf, most_by, only_line, life_of, sns_told, AreFails}
use Rattle.journal_flows.specs.FlowsTold.{flows_within}
use Rattle.journal_flows.specs.Gathering.{MayTake}
use Rattle.journal_flows.specs.Laws.{bearer_on}
use Rattle.journal_lives.specs.LifeEvents.{LifeEvent, running}
use Rattle.journal_status.specs.RightStatus.{up_to, tells_ignored, ignored_told, ignored_by, ignored_within}
use Rattle.journal_status.specs.RightStatus.{AreIgnoredTold}
use Rattle.law_sound.specs.ElsewhereLaws.{IsUnacked, OthersAreRight}

-- ---- no limit of retransmissions, and nothing that is ignored

unacked_most : (o : Option BearerConfig) → IsUnacked o → most_by o ≡ None
unacked_most None h = refl
unacked_most (Some config) h = ap (λ (b : Bool). if b then Some config.tx.max_retx else None) h

unacked_ignored : (o : Option BearerConfig) (es : List LifeEvent) → IsUnacked o → ignored_by o es ≡ 0
unacked_ignored None es h = refl
unacked_ignored (Some config) es h = ap (λ (b : Bool). if b then ignored_in (running es) else 0) h

-- ---- none is told

counts_by : (b : Bool) (x : Record) (xs : List Record) → (length xs ≡ 0 → ⊥) → length (cond b (x ∷ xs) xs) ≡ 0 → ⊥
counts_by true x xs rest none = absurd cc
counts_by false x xs rest none = rest none

counts : (test : Record → Bool) (told : List Record) (one : Record) (rest : List Record) → test one ≡ true
    → length (filter test (told ++ one ∷ rest)) ≡ 0 → ⊥
counts test [] one rest is none =
    let found = filter test rest in
    let some : length (one ∷ found) ≡ 0 = ap (λ (b : Bool). length (cond b (one ∷ found) found)) (sym is) ∙ none in
    absurd cc
counts test (x ∷ told) one rest is none =
    counts_by (test x) x (filter test (told ++ one ∷ rest)) (counts test told one rest is) none

no_more : (a b c : ℕ) → a ≡ 0 → b ≡ 0 → c ≡ 0 → a + b ≡ c
no_more a b c p q r = omega arith

-- ---- the law

fails_right : (may_take : MayTake) (now : Group) (past : List Group) (side : Side) (lcid : ℕ)
    → IsUnacked (bearer_on lcid (now ∷ past)) → sns_told side lcid now ≡ [] → AreFails may_take now past side lcid
fails_right may_take now past side lcid h none =
    let sns = sns_told side lcid now in
    subst (λ (o : Option ℕ). MatchOption o (sns ≡ [])
    (λ most. AreFailsOf most (life_of may_take (only_line now) past side lcid) (life_of may_take now past side lcid)
    sns)) (sym (unacked_most (bearer_on lcid (now ∷ past)) h)) none

ignored_right : (may_take : MayTake) (now : Group) (past : List Group) (side : Side) (lcid : ℕ)
    → IsUnacked (bearer_on lcid (now ∷ past)) → ignored_told side lcid now.events ≡ 0
    → AreIgnoredTold may_take now past side lcid
ignored_right may_take now past side lcid h none = record {
  behind_each = λ told one rest e is.
      let test = tells_ignored side lcid in
      absurd (counts test told one rest is (ap (λ (xs : List Record). length (filter test xs)) (sym e) ∙ none));
  behind_all =
      no_more (ignored_within may_take (up_to [] now) past side lcid) (ignored_told side lcid now.events)
      (ignored_within may_take now past side lcid)
      (unacked_ignored (bearer_on lcid (now ∷ past)) (flows_within may_take (up_to [] now) past side lcid) h) none
      (unacked_ignored (bearer_on lcid (now ∷ past)) (flows_within may_take now past side lcid) h);
}

pub others_are_right : OthersAreRight
others_are_right may_take now past side lcid h none =
    record {
      fails = fails_right may_take now past side lcid h none.fails;
      ignored = ignored_right may_take now past side lcid h none.ignored;
    }
