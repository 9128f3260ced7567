-- Where a channel of an end needs some of a grant of a drain, one of its bearers writes.
use Rattle.std.proofs.Common.{◌≡◌, ◌<◌, ◌≤◌, ◌⊎◌, inl, inr, ℕ, ◌+◌, ◌==◌, Bool, true, false}
use Rattle.std.proofs.Common.{if◌then◌else◌, Option}
use Rattle.std.proofs.Common.{Some, None, List, [], ◌∷◌, length, replicate, set, get_or}
use Rattle.std.proofs.Common.{get_or-set_same, get_or-set_other}
use Rattle.std.proofs.Common.{refl, ap, sym, subst, ◌∙◌, arith}
use Rattle.std.proofs.Math.ListN.{length-set}
use Rattle.std.proofs.lemmas.Bool.{cases_lt}
use Rattle.std.proofs.lemmas.Bool.Decides.{nat_tests}
use Rattle.std.proofs.lemmas.List.{get_or_past}
use Rattle.std.specs.List.{AllByRecursion, list_any}
use Rattle.std.specs.Prelude.{IfSome}
use Rattle.air_text.specs.Groups.{Group}
use Rattle.bearer.specs.Bearer.{Of, Life}
use Rattle.bearer.specs.Sums.{need as flow_need}
use Rattle.bearer.specs.Taking.{pdus}
use Rattle.bearer.specs.declared.flow.Flow.{Flow}
use Rattle.bearer.specs.declared.flow.Flow.TheVariants.{Tm, Um, Am}
use Rattle.bearer_types.specs.Configs.{IsChannelOf}
use Rattle.harq.specs.declared.sender.Order.{Order}
use Rattle.l2_node.specs.Building.{visited}
use Rattle.l2_node.specs.End.{End}
use Rattle.l2_node.specs.Finding.{find, has, bearer_at, no_bearer}
use Rattle.l2_node.specs.Writing.{need_at, all_needs, needs, shares}
use Rattle.l2_types.specs.declared.channel.Channel.{Channel}
use Rattle.l2_types.specs.declared.channel.Kind.{Kind}
use Rattle.l2_types.specs.declared.channel.Kind.TheVariants as kinds
use Rattle.l2_types.specs.declared.side.Side.{Side}
use Rattle.pdcp_pdu.specs.declared.pdu.PdcpKind.{PdcpKind}
use Rattle.prioritise.specs.Channels.{has as has_channel, goes_before}
use Rattle.prioritise.specs.ShareLaws.{IsSound, IsOneOf}
use Rattle.prioritise.specs.Shares.{allotted}
use Rattle.prioritise.proofs.ChannelLemmas.{both_false}
use Rattle.promises.specs.Names.{IsPdcp}
use Rattle.promises.specs.Telling.{channels}
use Rattle.promises.specs.Order.{Channels}
use Rattle.rlc_um.specs.Transparent.{taken as tm_taken}
use Rattle.law_bearer.specs.AnyBearer.Rounds.{writes_in}
use Rattle.law_node.specs.Holding.{flow}
use Rattle.law_node.specs.Order.{AreOrdered}
use Rattle.law_node.specs.Sharing.{need}
use Rattle.law_node.proofs.Holding.{flow_at}
use Rattle.law_node.proofs.Offers.{pdu_some}
use Rattle.law_node.proofs.Ready.{WritesWell}
use Rattle.law_node.proofs.Sharing.{Apart, sound_apart}
use Rattle.law_node.proofs.Sound.{visited_sound}
use Rattle.law_node.proofs.Standing.{stands_in_order}
use Rattle.law_deliver.specs.AmFlow.Air.{HasCome as AirCome}
use Rattle.law_deliver.specs.AmFlow.Channels.{share_of, held_of}
use Rattle.law_deliver.proofs.AmFlow.Stations.{come_sound}
use Rattle.law_drain.specs.Ends.{HasOctet}
use Rattle.law_drain.specs.Sharing.{HaveOctetsToSend, is_transparent, IsServedFirst, AreNeeds}
use Rattle.law_drain.proofs.Grants.{channel-of}
use Rattle.law_drain.proofs.Sharing.{grants_are_used}
use Rattle.law_run.specs.AnyCalls.Order.{channels_of}
use Rattle.law_run.specs.AnyCalls.Zero.{HasCome}
use Rattle.law_run.specs.DrainShares.{BuildsFrom, dealt}
use Rattle.law_run.proofs.AnyCalls.Bringing.{come_on}
use Rattle.law_run.proofs.AnyCalls.Channels.{channels_stay}
use Rattle.law_run.specs.Order.{KeepsOrder}
use Rattle.law_run.proofs.DrainChannels.{MayStandFirst, lists_alike, has_listed, all_first, served_first}
use Rattle.law_run.proofs.DrainFlows.{come_stands}
use Rattle.law_run.proofs.DrainTracks.{IsOfKind, Tracks, lives_track}

-- ---- the needs of channels are those of their bearers

others_need : (e : End) (grant : ℕ) (cs : List Channel) (found : List ℕ) (l : ℕ) → has_channel l cs ≡ false
    → get_or (all_needs e grant cs found) l 0 ≡ get_or found l 0
others_need e grant [] found l h = refl
others_need e grant (c ∷ cs) found l h =
    let b = both_false (l == c.lcid) (has_channel l cs) h in
    let apart : l ≡ c.lcid → ⊥ = grind (arith, nat_tests) in
    others_need e grant cs (set found c.lcid (need e grant c)) l b.1
    ∙ get_or-set_other found c.lcid l (need e grant c) 0 apart

one_needs : (e : End) (grant : ℕ) (cs : List Channel) (found : List ℕ) → length found ≡ 11 → Apart cs → (c : Channel)
    → IsOneOf c cs → get_or (all_needs e grant cs found) c.lcid 0 ≡ need e grant c
one_needs e grant [] found l a c o = absurd o
one_needs e grant (d ∷ cs) found l a c (inl same) =
    let first = others_need e grant cs (set found d.lcid (need e grant d)) d.lcid a.1
    ∙ get_or-set_same found d.lcid (need e grant d) 0 (omega (arith, a.0)) in
    subst (λ (x : Channel). get_or (all_needs e grant cs (set found d.lcid (need e grant d))) x.lcid 0
    ≡ need e grant x) (sym same) first
one_needs e grant (d ∷ cs) found l a c (inr there) =
    one_needs e grant cs (set found d.lcid (need e grant d)) (length-set found d.lcid (need e grant d) ∙ l) a.2 c
    there

needs_are : (e : End) (grant : ℕ) → IsSound e.buckets → (c : Channel) → IsOneOf c e.buckets.channels
    → get_or (needs e grant) c.lcid 0 ≡ need e grant c
unfolding needs
needs_are e grant s c o =
    one_needs e grant e.buckets.channels (replicate 11 0) refl
    (sound_apart e.buckets.channels s.channels.within s.channels.distinct) c o

-- where there is no bearer nothing is needed, or written
absent : (l : ℕ) (bs : List (Of Life)) → has l bs ≡ false → bearer_at bs (find l bs) ≡ no_bearer
absent l bs none = get_or_past bs (find l bs) no_bearer (grind (arith, nat_tests, none))

none_needed : (grant : ℕ) (held : Option ℕ) → flow_need no_bearer.state.flow grant held ≡ 0
unfolding flow_need
none_needed grant held = refl

none_written : (share : ℕ) (held : Option ℕ) → pdus no_bearer.state.flow share held ≡ []
unfolding pdus tm_taken
none_written share held = refl

need_at_is : (bs : List (Of Life)) (l grant : ℕ) (held : Option ℕ)
    → need_at bs l grant held ≡ flow_need (flow_at l bs) grant held
need_at_is bs l grant held = by (has l bs) refl
  where
    by : (t : Bool) → has l bs ≡ t
        → (if t then flow_need (bearer_at bs (find l bs)).state.flow grant held else 0)
        ≡ flow_need (flow_at l bs) grant held
    by true e = refl
    by false e =
        sym (none_needed grant held)
        ∙ ap (λ (b : Of Life). flow_need b.state.flow grant held) (sym (absent l bs e))

-- ---- each SDU has an octet

owes : (kind : PdcpKind) (o : Option (List ℕ)) → IfSome o (IsPdcp kind) → IfSome o HasOctet
owes kind None h = tt
owes kind (Some report) h = pdu_some kind report h

pub writes_octets : (lcid : ℕ) (f : Flow) → WritesWell lcid f → HaveOctetsToSend f
writes_octets lcid (Tm b) w = tt
writes_octets lcid (Um b) w = (w.ready.octets, owes w.kind b.pdcp.tx.owed w.offers'.tx.owed)
writes_octets lcid (Am b) w = (w.ready.can.octets, owes w.kind b.pdcp.tx.owed w.offers'.tx.owed)

-- ---- a transparent bearer is that of LCID 0

transparent_zero : (kind : Kind) (f : Flow) (l : ℕ) → IsOfKind kind f → IsChannelOf kind l → is_transparent f ≡ true
    → l ≡ 0
transparent_zero kinds.Tm f l h g e = g
transparent_zero kinds.Srb (Tm b) l h g e = absurd h
transparent_zero kinds.Srb (Um b) l h g e = absurd h
transparent_zero kinds.Srb (Am b) l h g e = let no : false ≡ true = e in absurd cc
transparent_zero kinds.Um (Tm b) l h g e = absurd h
transparent_zero kinds.Um (Um b) l h g e = let no : false ≡ true = e in absurd cc
transparent_zero kinds.Um (Am b) l h g e = absurd h
transparent_zero kinds.Am (Tm b) l h g e = absurd h
transparent_zero kinds.Am (Um b) l h g e = absurd h
transparent_zero kinds.Am (Am b) l h g e = let no : false ≡ true = e in absurd cc

-- ---- an end as it builds a block

visited_channels : (t : ℕ) (order : Order) (e : End) → channels_of (visited t order e) ≡ channels_of e
unfolding visited
visited_channels t order e = refl

visited_flow : (t : ℕ) (order : Order) (e : End) (l : ℕ) → flow l (visited t order e) ≡ flow l e
unfolding visited
visited_flow t order e l = refl

air_come : (side : Side) (e : End) → HasCome side e → AirCome side e
air_come side e h = record {
  maximum = h.maximum;
  reports = h.reports;
  past = h.calls;
  given = h.given;
  end_is = h.end_is;
}

-- what is known of a channel that an end has
pub record IsTracked (side : Side) (l : ℕ) (e : End) : Type 0 where
  pub kind : Kind
  pub goes_with : IsChannelOf kind l
  pub tracks : Tracks kind side l e

pub record SomeWrites (e : End) (grant : ℕ) : Type 0 where
  pub lcid : ℕ
  pub there : has lcid e.bearers ≡ true
  pub writes : 0 < length (writes_in (dealt e grant lcid) (flow lcid e))

module _ (past : List Group) (order : KeepsOrder past) (side : Side) (before e : End) (b : BuildsFrom side before e)
    (same : channels_of before ≡ channels past) (come : HasCome side before)
    (tracked : (l : ℕ) → has l before.bearers ≡ true → IsTracked side l before) (grant : ℕ) (some : 200 ≤ grant)
    (few : grant ≤ 9422) where
  come_first : HasCome side b.first
  come_first = come_on side b.told before b.first b.goes.by come

  first_same : channels_of b.first ≡ channels_of before
  first_same = channels_stay side b.told before b.first b.goes

  e_same : channels_of e ≡ channels past
  e_same = ap channels_of b.is ∙ visited_channels b.tti b.order b.first ∙ first_same ∙ same

  e_flow : (l : ℕ) → flow l e ≡ flow l b.first
  e_flow l = ap (flow l) b.is ∙ visited_flow b.tti b.order b.first l

  pub e_has : (l : ℕ) → has l e.bearers ≡ has l before.bearers
  e_has l =
      has_listed l e
      ∙ ap (λ (c : Channels). list_any (λ n. l == n) c.by_lcid) (e_same ∙ sym same)
      ∙ sym (has_listed l before)

  sound : IsSound e.buckets
  sound =
      subst (λ (x : End). IsSound x.buckets) (sym b.is)
      (visited_sound b.tti b.order b.first (come_sound side b.first (air_come side b.first come_first)))

  ordered : AreOrdered (λ c d. goes_before c d ≡ true) e.buckets.channels
  ordered =
      subst (λ (c : Channels). AreOrdered (λ c d. goes_before c d ≡ true) c.by_priority)
      (sym (ap channels_of come_first.end_is) ∙ first_same ∙ same ∙ sym e_same)
      (stands_in_order side come_first.maximum come_first.reports come_first.calls).channels_are

  e_tracked : (l : ℕ) → has l e.bearers ≡ true → IsTracked side l b.first
  e_tracked l there =
      let t = tracked l (sym (e_has l) ∙ there) in
      record {
        kind = t.kind;
        goes_with = t.goes_with;
        tracks = lives_track t.kind side l [] b.told before b.first b.goes tt t.tracks;
      }

  transparent : (c : Channel) → IsOneOf c e.buckets.channels → is_transparent (flow c.lcid e) ≡ true
      → 0 < flow_need (flow c.lcid e) grant None → IsServedFirst c e.buckets.channels
  transparent c one is wants = by (has c.lcid e.bearers) refl
    where
      by : (t : Bool) → has c.lcid e.bearers ≡ t → IsServedFirst c e.buckets.channels
      by true there =
          let t = e_tracked c.lcid there in
          let zero' = transparent_zero t.kind (flow c.lcid b.first) c.lcid t.tracks.of_kind t.goes_with
          (ap is_transparent (sym (e_flow c.lcid)) ∙ is) in
          served_first c e.buckets.channels ordered
          (subst (λ (c : Channels). AllByRecursion MayStandFirst c.by_priority) (sym e_same) (all_first past order)) one
          zero'
      by false none =
          let nothing : flow_need (flow c.lcid e) grant None ≡ 0 =
          ap (λ (x : Of Life). flow_need x.state.flow grant None) (absent c.lcid e.bearers none)
          ∙ none_needed grant None in
          absurd (omega (arith, nothing, wants))

  are_needs : AreNeeds e.buckets (λ l. flow l e) grant (needs e grant)
  are_needs = record {
    each = λ c o.
        needs_are e grant sound c o ∙ ap (need_at e.bearers c.lcid grant) (b.none_held c.lcid)
        ∙ need_at_is e.bearers c.lcid grant None;
    octets = λ c o.
        let at = come_stands side b.first c.lcid come_first in
        subst HaveOctetsToSend (sym (e_flow c.lcid)) (writes_octets at.lcid (flow c.lcid b.first) at.well.0);
    transparent = transparent;
  }

  -- a share is written into
  writes_share : (c : Channel) → IsOneOf c e.buckets.channels
      → 0 < length (pdus (flow c.lcid e) (share_of e grant c.lcid) None) → SomeWrites e grant
  writes_share c one some = record {
    lcid = c.lcid;
    there = there (has c.lcid e.bearers) refl;
    writes =
        subst (λ (ps : List (List ℕ)). 0 < length ps)
        (sym (ap (λ (t : Bool). if t then pdus (flow c.lcid e) (share_of e grant c.lcid) (held_of e c.lcid) else [])
        (has_one c e.buckets.channels one)
        ∙ ap (pdus (flow c.lcid e) (share_of e grant c.lcid)) (b.none_held c.lcid))) some;
  }
    where
      has_one : (c : Channel) (cs : List Channel) → IsOneOf c cs → has_channel c.lcid cs ≡ true
      has_one c [] o = absurd o
      has_one c (d ∷ ds) (inl is) =
          let here : (c.lcid == d.lcid) ≡ true = grind (arith, nat_tests, ap (λ (x : Channel). x.lcid) is) in
          rw here refl
      has_one c (d ∷ ds) (inr o) = let more = has_one c ds o in grind (arith, nat_tests, more)

      there : (t : Bool) → has c.lcid e.bearers ≡ t → has c.lcid e.bearers ≡ true
      there true is = is
      there false is =
          let nothing : pdus (flow c.lcid e) (share_of e grant c.lcid) None ≡ [] =
          ap (λ (x : Of Life). pdus x.state.flow (share_of e grant c.lcid) None) (absent c.lcid e.bearers is)
          ∙ none_written (share_of e grant c.lcid) None in
          let zero' : length (pdus (flow c.lcid e) (share_of e grant c.lcid) None) ≡ 0 =
          ap (λ (ps : List (List ℕ)). length ps) nothing in
          absurd (omega (arith, zero', some))

  serves : (c : Channel) → IsOneOf c e.buckets.channels → 0 < flow_need (flow c.lcid e) grant None
      → SomeWrites e grant
  unfolding shares
  serves c one wants =
      let w = grants_are_used e.buckets (λ l. flow l e) grant (needs e grant) c sound some few are_needs one wants in
      writes_share w.channel w.one (shared w.channel w.writes)
    where
      shared : (d : Channel)
          → 0 < length (pdus (flow d.lcid e) (get_or (allotted e.buckets (needs e grant) (grant + 2)) d.lcid 0) None)
          → 0 < length (pdus (flow d.lcid e) (share_of e grant d.lcid) None)
      shared d h = h

  -- so where none writes nothing is needed
  pub none_needs : (SomeWrites e grant → ⊥) → (l : ℕ) → has l e.bearers ≡ true
      → flow_need (flow l e) grant None ≡ 0
  none_needs none l there = by (cases_lt 0 (flow_need (flow l e) grant None))
    where
      known : has_channel l e.buckets.channels ≡ true
      known =
          ap (λ (c : Channels). has_channel l c.by_priority) e_same
          ∙ lists_alike l past
          ∙ ap (λ (c : Channels). list_any (λ n. l == n) c.by_lcid) (sym e_same)
          ∙ sym (has_listed l e) ∙ there

      by : (0 < flow_need (flow l e) grant None) ⊎ (flow_need (flow l e) grant None ≤ 0)
          → flow_need (flow l e) grant None ≡ 0
      by (inl wants) =
          let c = channel-of l e.buckets.channels known in
          absurd (none (serves c.0 c.1 (subst (λ (n : ℕ). 0 < flow_need (flow n e) grant None) (sym c.2) wants)))
      by (inr zero') = omega (arith, zero')
