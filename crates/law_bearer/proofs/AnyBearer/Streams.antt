-- The stream that RLC is offered.
use Rattle.std.proofs.Common.{◌≡◌, ◌⊎◌, inl, inr, ℕ, List, [], ◌∷◌, ◌++◌, map, Option, Some, None, subst, refl, ap, sym}
use Rattle.std.proofs.Common.{◌∙◌}
use Rattle.std.proofs.lemmas.List.{map-append}
use Rattle.bearer_types.specs.declared.BearerConfig.{BearerConfig}
use Rattle.eps_sec.specs.declared.Keys.{Keys}
use Rattle.l2_types.specs.declared.Kind.{Kind}
use Rattle.l2_types.specs.declared.Kind.TheVariants as kinds
use Rattle.l2_types.specs.declared.Side.{Side}
use Rattle.pdcp_pdu.specs.declared.PdcpKind.{PdcpKind}
use Rattle.pdcp_pdu.specs.declared.PdcpKind.TheVariants as pdcp
use Rattle.pdcp_sec.specs.Protection.{protection_of}
use Rattle.pdcp_rx.specs.State.{fresh}
use Rattle.pdcp_tx.specs.State.{start}
use Rattle.pdcp_tx.specs.Runs.{IsOrdered}
use Rattle.law_pdcp.specs.OneEnd.Lives.{run_pdcp_sender}
use Rattle.law_pdcp.proofs.OneEnd.Lives.{lives_are_ordered}
use Rattle.bearer_pdcp.specs.Ends.{Ends, begun, bearer_of, sends}
use Rattle.bearer.specs.Unacknowledged.State.{fresh as fresh_um}
use Rattle.bearer.specs.Acknowledged.State.{fresh as fresh_am}
use Rattle.bearer.specs.declared.flow.Flow.{Flow}
use Rattle.bearer.specs.Bearer.{flow_of}
use Rattle.law_bearer.specs.AnyBearer.Calls.{Call, after, Step, run_bearer, reached, ends}
use Rattle.law_bearer.specs.AnyBearer.Stream.{takes, taken, pdu_of, pdus_of, stream, owed, AreInOrder, IsStream}
use Rattle.law_bearer.proofs.AnyBearer.Sender.{Doings, moved_same, same_pdus}
use Rattle.law_bearer.proofs.AnyBearer.Parts.{AreOfKind, lives_kind}
use Rattle.law_bearer.proofs.AnyBearer.Orders.{in_order}
use Rattle.law_bearer.proofs.AnyBearer.Flows.{is_offered, doing, all_doings, life_taken, called, life, history}
use Rattle.law_bearer.proofs.AnyBearer.Flows.{none_after, none_steps}

-- ---- where a bearer begins

pub record Begun (c : BearerConfig) (keys : Keys) (side : Side) (o : Option Ends) : Type 0 where
  pub kind : PdcpKind
  pub is : o ≡ Some (begun c.channel.lcid kind c.first keys side)

pub um_begins : (c : BearerConfig) (keys : Keys) (side : Side)
    → ends (flow_of kinds.Um c keys side) ≡ Some (begun c.channel.lcid (pdcp.Um c.pdcp_bits) c.first keys side)
unfolding fresh_um
um_begins c keys side = refl

pub am_begins : (c : BearerConfig) (keys : Keys) (side : Side)
    → ends (flow_of kinds.Am c keys side) ≡ Some (begun c.channel.lcid (pdcp.Am c.pdcp_bits) c.first keys side)
unfolding fresh_am
am_begins c keys side = refl

pub srb_begins : (c : BearerConfig) (keys : Keys) (side : Side)
    → ends (flow_of kinds.Srb c keys side) ≡ Some (begun c.channel.lcid pdcp.Srb c.first keys side)
unfolding fresh_am
srb_begins c keys side = refl

pub begins : (k : Kind) (c : BearerConfig) (keys : Keys) (side : Side)
    → (ends (flow_of k c keys side) ≡ None) ⊎ Begun c keys side (ends (flow_of k c keys side))
begins kinds.Tm c keys side = inl refl
begins kinds.Srb c keys side = inr (record { kind = pdcp.Srb; is = srb_begins c keys side })
begins kinds.Um c keys side = inr (record { kind = pdcp.Um c.pdcp_bits; is = um_begins c keys side })
begins kinds.Am c keys side = inr (record { kind = pdcp.Am c.pdcp_bits; is = am_begins c keys side })

pub begun_tx : (lcid : ℕ) (kind : PdcpKind) (first : ℕ) (keys : Keys) (side : Side)
    → (begun lcid kind first keys side).tx ≡ start kind (protection_of kind keys (bearer_of lcid) (sends side)) first
unfolding begun
begun_tx lcid kind first keys side = refl

-- PDCP as it was reached from its beginning
pub record Arrived (f : Flow) : Type 0 where
  pub now : Ends
  pub is : ends f ≡ Some now
  pub ordered : IsOrdered now.tx
  pub kinds : AreOfKind now.kind now

pub begun_kind : (lcid : ℕ) (kind : PdcpKind) (first : ℕ) (keys : Keys) (side : Side)
    → AreOfKind (begun lcid kind first keys side).kind (begun lcid kind first keys side)
unfolding begun start fresh
begun_kind lcid kind first keys side = record { here = refl; tx = refl; rx = refl }

arrived_from : (c : BearerConfig) (keys : Keys) (side : Side) (f : Flow) (xs : List Step) → Begun c keys side (ends f)
    → Arrived (run_bearer xs f)
arrived_from c keys side f xs b =
    let p = protection_of b.kind keys (bearer_of c.channel.lcid) (sends side) in
    let start_ends : Ends = begun c.channel.lcid b.kind c.first keys side in
    let h = history f start_ends xs b.is in
    let from = h.passed.tx.left
    ∙ ap (run_pdcp_sender h.passed.tx.steps) (begun_tx c.channel.lcid b.kind c.first keys side) in
    record {
      now = h.next;
      is = h.is;
      ordered = subst IsOrdered (sym from) (lives_are_ordered b.kind p c.first h.passed.tx.steps);
      kinds = lives_kind start_ends h.next (all_doings f xs) h.passed
          (begun_kind c.channel.lcid b.kind c.first keys side);
    }

pub arrives : (c : BearerConfig) (keys : Keys) (side : Side) (xs : List Step)
    → (ends (reached c keys side xs) ≡ None) ⊎ Arrived (reached c keys side xs)
arrives c keys side xs = by (begins c.kind c keys side)
  where
    by : (ends (flow_of c.kind c keys side) ≡ None) ⊎ Begun c keys side (ends (flow_of c.kind c keys side))
        → (ends (reached c keys side xs) ≡ None) ⊎ Arrived (reached c keys side xs)
    by (inl q) = inl (none_steps (flow_of c.kind c keys side) xs q)
    by (inr b) = inr (arrived_from c keys side (flow_of c.kind c keys side) xs b)

-- ---- the stream as PDUs

pub none_stream : (f : Flow) (cs : List Call) → ends f ≡ None → (stream f cs ≡ []) × (taken f cs ≡ [])
none_stream f [] q = (refl, refl)
none_stream f (c ∷ cs) q =
    let one = none_after f c q in
    let more = none_stream (after f c) cs one.0 in (
      ap (λ o. pdus_of o (takes f c) ++ stream (after f c) cs) q ∙ more.0,
      ap (λ l. l ++ taken (after f c) cs) one.1 ∙ more.1,
    )

some_stream : (f : Flow) (e : Ends) (cs : List Call) → ends f ≡ Some e → stream f cs ≡ map (pdu_of e.tx) (taken f cs)
some_stream f e [] q = refl
some_stream f e (c ∷ cs) q =
    let one = called f e c q in
    ap (λ o. pdus_of o (takes f c) ++ stream (after f c) cs) q
    ∙ ap (λ l. map (pdu_of e.tx) (takes f c) ++ l) (some_stream (after f c) one.next cs one.is
    ∙ same_pdus e.tx one.next.tx (taken (after f c) cs) (moved_same e.tx one.next.tx (doing f c) one.passed.tx))
    ∙ sym (map-append (pdu_of e.tx) (takes f c) (taken (after f c) cs))

-- ---- the law

none_law : (f : Flow) (cs : List Call) → ends f ≡ None → IsStream f cs
none_law f cs q =
    let s = none_stream f cs q in
    record {
      offered = is_offered f;
      pdus = s.0 ∙ ap (λ o. pdus_of o (taken f cs)) (sym q);
      order = rw (q, s.1) tt;
    }

pub life_order : (f : Flow) (e : Ends) (cs : List Call) → ends f ≡ Some e → IsOrdered e.tx
    → AreInOrder e.tx.owed (taken f cs)
life_order f e cs q ordered =
    let l = life f e cs q in
    subst (AreInOrder e.tx.owed) (sym (ap (λ (a : Doings). a.taken) l.passed.tx.did) ∙ life_taken f cs)
    (in_order e.tx l.passed.tx.steps l.passed.tx.life ordered)

some_law : (f : Flow) (e : Ends) (cs : List Call) → ends f ≡ Some e → IsOrdered e.tx → IsStream f cs
some_law f e cs q ordered = record {
  offered = is_offered f;
  pdus = some_stream f e cs q ∙ ap (λ o. pdus_of o (taken f cs)) (sym q);
  order = subst (λ o. AreInOrder (owed o) (taken f cs)) (sym q) (life_order f e cs q ordered);
}

pub offers_in_order : (c : BearerConfig) (keys : Keys) (side : Side) (xs : List Step) (cs : List Call)
    → IsStream (reached c keys side xs) cs
offers_in_order c keys side xs cs = by (arrives c keys side xs)
  where
    by : (ends (reached c keys side xs) ≡ None) ⊎ Arrived (reached c keys side xs)
        → IsStream (reached c keys side xs) cs
    by (inl q) = none_law (reached c keys side xs) cs q
    by (inr a) = some_law (reached c keys side xs) a.now cs a.is a.ordered
