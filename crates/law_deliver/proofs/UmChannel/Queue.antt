-- What leaves the queue of a channel of unacknowledged data is told by its length.
use Rattle.std.proofs.Common.{◌≡◌, ℕ, List, [], ◌++◌, map, length, Some, refl, ap, sym, subst, ◌∙◌}
use Rattle.std.specs.List.{AllByRecursion}
use Rattle.bearer.specs.Bearer.{flow_of}
use Rattle.bearer.specs.declared.flow.Flow.{Flow}
use Rattle.bearer.specs.declared.flow.Flow.TheVariants.{Um}
use Rattle.bearer.specs.Unacknowledged.State.{State, fresh}
use Rattle.bearer_pdcp.specs.Ends.{Ends, begun as begun_ends}
use Rattle.bearer_types.specs.declared.config.BearerConfig.{BearerConfig}
use Rattle.eps_sec.specs.declared.Keys.{Keys}
use Rattle.l2_node.specs.End.{End}
use Rattle.l2_types.specs.declared.channel.Kind.{Kind}
use Rattle.l2_types.specs.declared.channel.Kind.TheVariants as kinds
use Rattle.l2_types.specs.declared.side.Side.{Side}
use Rattle.law_bearer.specs.AnyBearer.Calls.{ends, run_bearer, Step as BearerStep}
use Rattle.law_bearer.specs.AnyBearer.Queue.{queue, all_submitted}
use Rattle.law_bearer.proofs.AnyBearer.Between.{IsBetween}
use Rattle.law_bearer.proofs.AnyBearer.Streams.{um_begins}
use Rattle.law_node.proofs.Plain.{IsPlain}
use Rattle.law_node.specs.Calls.{Call, run_end}
use Rattle.law_node.specs.Holding.{flow}
use Rattle.law_node.specs.Telling.{told_over}
use Rattle.pdcp_pdu.specs.declared.pdu.PdcpKind.{PdcpKind}
use Rattle.pdcp_pdu.specs.declared.pdu.PdcpKind.TheVariants.{Um as UmKind}
use Rattle.pdcp_tx.specs.State.{start}
use Rattle.pdcp_tx_store.specs.Waiting.{Waits}
use Rattle.promises.specs.Taken.{lengths_on}
use Rattle.law_deliver.specs.AmChannel.Delivery.{HasBegun, was_submitted, submitted_at, steps_over}
use Rattle.law_deliver.specs.AmChannel.Lives.{AirStep, AreLiving, lives, end_at, all_calls}
use Rattle.law_deliver.specs.AmFlow.Air.{outset}
use Rattle.law_deliver.proofs.AmChannel.Delivery.{stands_so}
use Rattle.law_deliver.proofs.AmChannel.Ends.{all_lengths, IsCall, are_calls, all_go, goes_by_calls}
use Rattle.law_deliver.proofs.AmChannel.Submitted.{submitted_is}
use Rattle.law_deliver.proofs.AmFlow.Ups.{between_at, come_between}
use Rattle.law_deliver.proofs.UmChannel.Leaving.{all_lens}

-- ---- a bearer begins with nothing

pub begun_plain : (kind : PdcpKind) (lcid first : ℕ) (keys : Keys) (side : Side)
    → IsPlain kind (begun_ends lcid kind first keys side)
unfolding begun_ends start
begun_plain kind lcid first keys side = record {
  own = refl;
  sender = record { kind_is = refl; owes_none = refl; none_again = refl; none_given = refl };
}

pub begun_empty : (kind : PdcpKind) (lcid first : ℕ) (keys : Keys) (side : Side)
    → (begun_ends lcid kind first keys side).tx.waiting ≡ []
unfolding begun_ends start
begun_empty kind lcid first keys side = refl

module _ (side : Side) (l : ℕ) (c : BearerConfig) (keys : Keys) (e : End) (cs : List Call) (k : c.kind ≡ kinds.Um)
    (h : HasBegun side l c keys e) where
  abbrev first_bearer : State
  first_bearer = fresh c keys side

  starts_as : flow l e ≡ Um first_bearer
  starts_as = h.bearer_is ∙ ap (λ (kind : Kind). flow_of kind c keys side) k

  first_ends : first_bearer.pdcp ≡ begun_ends c.channel.lcid (UmKind c.pdcp_bits) c.first keys side
  first_ends =
      let some : Some first_bearer.pdcp ≡ Some (begun_ends c.channel.lcid (UmKind c.pdcp_bits) c.first keys side) =
      um_begins c keys side in
      cc

  plain : IsPlain (UmKind c.pdcp_bits) first_bearer.pdcp
  plain =
      subst (IsPlain (UmKind c.pdcp_bits)) (sym first_ends)
      (begun_plain (UmKind c.pdcp_bits) c.channel.lcid c.first keys side)

  empty : first_bearer.pdcp.tx.waiting ≡ []
  empty = ap (λ (x : Ends). x.tx.waiting) first_ends
      ∙ begun_empty (UmKind c.pdcp_bits) c.channel.lcid c.first keys side

  between : IsBetween l (Um first_bearer)
  between = subst (IsBetween l) starts_as (between_at l e.bearers h.there (come_between side e h.come))

  -- those that were submitted have left the queue, or wait
  leave_or_wait : AllByRecursion (IsCall l) cs
      → lengths_on l (told_over cs e) ++ map length (queue (ends (flow l (run_end cs e))))
      ≡ map length (was_submitted l cs e)
  leave_or_wait g =
      let xs : List BearerStep = steps_over l cs e in
      let all = all_go side l e cs (stands_so side l c keys e h) g in
      ap (λ (ns : List ℕ). ns ++ map length (queue (ends (flow l (run_end cs e))))) all.lengths_are
      ∙ (ap (λ (f : Flow). all_lengths l (flow l e) xs ++ map length (queue (ends f))) all.bearer_is
      ∙ (ap (λ (f : Flow). all_lengths l f xs ++ map length (queue (ends (run_bearer xs f)))) starts_as
      ∙ (all_lens c.pdcp_bits l xs first_bearer between plain
      ∙ (ap (λ (ws : List Waits). map length (map (λ w. w.sdu) ws) ++ map length (all_submitted xs)) empty
      ∙ ap (λ (xs : List (List ℕ)). map length xs) (sym (submitted_is l cs e))))))

-- ---- the law

pub channels_tell_what_leaves : (l : ℕ) (c : BearerConfig) (keys : Keys) (nb ue : End) (side : Side)
    (steps : List AirStep) → c.kind ≡ kinds.Um → HasBegun side l c keys (end_at side (outset nb ue))
    → AreLiving l (outset nb ue) steps
    → lengths_on l (told_over (all_calls side steps (outset nb ue)) (end_at side (outset nb ue)))
    ++ map length (queue (ends (flow l (end_at side (lives steps (outset nb ue))))))
    ≡ map length (submitted_at l side steps (outset nb ue))
channels_tell_what_leaves l c keys nb ue side steps k h g =
    let a = outset nb ue in
    let e = end_at side a in
    let cs = all_calls side steps a in
    ap (λ (x : End). lengths_on l (told_over cs e) ++ map length (queue (ends (flow l x)))) (goes_by_calls side steps a)
    ∙ leave_or_wait side l c keys e cs k h (are_calls l side steps a g)
