-- The PDUs of a new block.
use Rattle.std.proofs.Common.{◌≡◌, ℕ, zero, suc, Bool, List, [], ◌∷◌, Option, Some, None, slice_set, slice_index_or}
use Rattle.std.proofs.Common.{option_map, refl, ap, sym, ◌∙◌}
use Rattle.l2_types.specs.declared.event.How.{How}
use Rattle.l2_types.specs.declared.side.Side.{Side}
use Rattle.l2_types.specs.declared.side.Side.TheVariants.{Nb, Ue}
use Rattle.mac_pdu.specs.declared.builder.Sdu.{Sdu}
use Rattle.journal_stream.specs.SentOctets.{SentOctets}
use Rattle.journal_lives.specs.FlowLives.{FlowLives}
use Rattle.journal_takes.specs.FlowTakes.{FlowTakes}
use Rattle.journal_flows.specs.Accounts.{account_at}
use Rattle.journal_given.specs.Giving.{Giving}
use Rattle.journal_sent.specs.declared.checker.NamedPdu.{NamedPdu}
use Rattle.journal_sent.specs.declared.verdict.Verdict.{Verdict}
use Rattle.journal_sent.specs.SentPdus.{accounts}
use Rattle.journal_sent.specs.SentFlows.{SentFlow, acked_by}
use Rattle.journal_sent.specs.Sending.{Sending, flows_of, with_flows, flow_at, changed, with_verdict, pdu_told_by}
use Rattle.journal_sent.specs.Sending.{acked_at, pdu_told, pdus_told}
use Rattle.journal_sent.specs.Judging.{verdict_of, behind, verdict_at, flows_judged}

pub none_left : (from : Side) (g : Giving FlowTakes) (named : List NamedPdu) (s : Sending SentOctets)
    → pdus_told accounts from g named [] s ≡ s
none_left from g [] s = refl
none_left from g (one ∷ named) s = refl

-- ---- a flow that is put where it was

put_back : {A : Type 0} (xs : List A) (at : ℕ) (d : A) → slice_set xs at (slice_index_or xs at d) ≡ xs
put_back [] at d = refl
put_back (x ∷ xs) zero d = refl
put_back (x ∷ xs) (suc at) d = ap (λ (ys : List _). x ∷ ys) (put_back xs at d)

same_flows : (side : Side) (s : Sending SentOctets) → with_flows side (flows_of side s) s ≡ s
same_flows Nb s = refl
same_flows Ue s = refl

unchanged : (side : Side) (lcid : ℕ) (f : SentFlow SentOctets → SentFlow SentOctets) (s : Sending SentOctets)
    → flow_at lcid (flows_of side s) ≡ None → changed side lcid f s ≡ s
unchanged side lcid f s e =
    let same : option_map f (flow_at lcid (flows_of side s)) ≡ flow_at lcid (flows_of side s) =
    ap (λ (o : Option (SentFlow SentOctets)). option_map f o) e ∙ sym e in
    ap (λ (o : Option (SentFlow SentOctets)). with_flows side (slice_set (flows_of side s) lcid o) s) same
    ∙ ap (λ (fs : List (Option (SentFlow SentOctets))). with_flows side fs s) (put_back (flows_of side s) lcid None)
    ∙ same_flows side s

-- ---- a PDU, by its verdict and the flow behind it

none_by : (side : Side) (acked : ℕ → Bool) (n : NamedPdu) (d : Sdu) (o : Option (SentFlow SentOctets))
    (s : Sending SentOctets) → o ≡ None → pdu_told_by accounts side acked n d o s ≡ s
none_by side acked n d None s e = refl
none_by side acked n d (Some f) s e = absurd cc

no_flow : (acked : ℕ → Bool) (how : How) (passed : Option (List ℕ)) (octets : List ℕ) (o : Option (SentFlow SentOctets))
    → None ≡ option_map (verdict_of acked how passed octets) o → o ≡ None
no_flow acked how passed octets None e = refl
no_flow acked how passed octets (Some f) e = absurd cc

some_by : (side : Side) (acked : ℕ → Bool) (n : NamedPdu) (d : Sdu) (o : Option (SentFlow SentOctets))
    (s : Sending SentOctets) (v : Verdict) → Some v ≡ option_map (verdict_of acked n.how n.sdu d.octets) o
    → with_verdict v (with_flows side
    (slice_set (flows_of side s) d.lcid (option_map (behind acked n.how n.sdu d.octets) o)) s)
    ≡ pdu_told_by accounts side acked n d o s
some_by side acked n d None s v e = absurd cc
some_by side acked n d (Some f) s v e =
    let is : v ≡ verdict_of acked n.how n.sdu d.octets f = cc in
    ap (λ (w : Verdict). with_verdict w (with_flows side
    (slice_set (flows_of side s) d.lcid (Some (behind acked n.how n.sdu d.octets f))) s)) is

pub not_judged : (side : Side) (g : Giving FlowTakes) (n : NamedPdu) (d : Sdu) (account : Option FlowLives)
    (s t : Sending SentOctets) → None ≡ verdict_at side d.lcid (acked_by account) n.how n.sdu d.octets s
    → t ≡ flows_judged side d.lcid (acked_by account) n.how n.sdu d.octets s → t ≡ pdu_told accounts side g n d s
not_judged side g n d account s t e is =
    let o = flow_at d.lcid (flows_of side s) in
    let none = no_flow (acked_by account) n.how n.sdu d.octets o e in
    is ∙ unchanged side d.lcid (behind (acked_by account) n.how n.sdu d.octets) s none
    ∙ sym (none_by side (acked_at side d.lcid g) n d o s none)

pub is_judged : (side : Side) (g : Giving FlowTakes) (n : NamedPdu) (d : Sdu) (account : Option FlowLives)
    (s t : Sending SentOctets) (v : Verdict) → account ≡ account_at side d.lcid g.kept.journal.flows
    → Some v ≡ verdict_at side d.lcid (acked_by account) n.how n.sdu d.octets s
    → t ≡ flows_judged side d.lcid (acked_by account) n.how n.sdu d.octets s
    → with_verdict v t ≡ pdu_told accounts side g n d s
is_judged side g n d account s t v by e is =
    let own = e ∙ ap (λ (a : Option FlowLives). verdict_at side d.lcid (acked_by a) n.how n.sdu d.octets s) by in
    ap (λ (u : Sending SentOctets). with_verdict v u) is
    ∙ ap (λ (a : Option FlowLives). with_verdict v (flows_judged side d.lcid (acked_by a) n.how n.sdu d.octets s)) by
    ∙ some_by side (acked_at side d.lcid g) n d (flow_at d.lcid (flows_of side s)) s v own

pub ruleset judges = (not_judged, is_judged)
