-- Behind the line in which a bearer of acknowledged data comes, what is gathered of what PDCP gives RLC on its channel
-- stands beside both ends: nothing was told yet.
use Rattle.std.proofs.Common.{◌≡◌, ◌≤◌, Bool, if◌then◌else◌, List, [], ◌∷◌, ◌++◌, Some}
use Rattle.std.proofs.Common.{refl, ap, sym, subst, ◌∙◌}
use Rattle.std.proofs.lemmas.Bool.{eq-eqb}
use Rattle.air_record.specs.declared.line.Line.TheVariants as lines
use Rattle.air_record.specs.declared.record.Record.{Record}
use Rattle.air_text.specs.Groups.{Group}
use Rattle.bearer_types.specs.declared.config.BearerConfig.{BearerConfig}
use Rattle.l2_types.specs.declared.channel.Kind.{Kind}
use Rattle.l2_types.specs.declared.channel.Kind.TheVariants as bearers
use Rattle.l2_types.specs.declared.side.Side.TheVariants.{Nb, Ue}
use Rattle.promises.specs.Blocks.{kinds}
use Rattle.journal_flows.specs.FlowsTold.{Histories, histories as flows}
use Rattle.journal_flows.specs.Gathering.{Journal, behind_line, behind_records}
use Rattle.journal_given.specs.Giving.{bearer_begun, bearer_at, all_given}
use Rattle.journal_given.specs.Supplies.{Bearer, History, histories, begun}
use Rattle.law_deliver.specs.AmChannel.Delivery.{AmEndsBeginAlike}
use Rattle.law_given.specs.Beside.{AreGivenBy}
use Rattle.law_given.specs.BearerRecords.{bearer_first, left_by}
use Rattle.law_given.specs.OneBearer.{bearer_submits}
use Rattle.law_given.proofs.BearerRecordsHistories.{one_bearer_by_histories}
use Rattle.law_given.proofs.Tied.{ties_begin}
use Rattle.law_words.specs.Arrivals.{AccountEntry, no_account, account}
use Rattle.law_run.specs.Order.{IsRight, KeepsOrder}
use Rattle.law_run.specs.TwoEnds.Lived.{IsAcknowledged}
use Rattle.law_run.proofs.BearerWalk.{comes}
use Rattle.law_run.proofs.Past.{link_behind}
use Rattle.law_sound.specs.LivedHistories.{Moment}
use Rattle.law_sound.proofs.GivenBetween.{IsGivenBehind, GoesBehind, may}
use Rattle.law_sound.proofs.GatheredFails.{begins_fail}
use Rattle.law_sound.proofs.GroupCarrying.{gathered}
use Rattle.law_sound.proofs.GivenLives.{given_begins}
use Rattle.law_sound.proofs.GroupReading.{begins}

-- no record is left of none
pub none_left : (told : List Record) (one : Record) (rest : List Record) → [] ≡ told ++ one ∷ rest → ⊥
none_left [] one rest e = cc
none_left (first ∷ told) one rest e = cc

-- the supplies of both its ends as they begin
abbrev pub first_bearer : BearerConfig → Bearer History
first_bearer c = record { nb = begun histories c.first c.pdcp_bits; ue = begun histories c.first c.pdcp_bits }

-- the bearer is the one of its line
pub bearer_comes : (newer past : List Group) (g : Group) (c : BearerConfig) (options : _) → c.channel.lcid ≤ 10
    → g.events ≡ [] → c.kind ≡ bearers.Am
    → bearer_at c.channel.lcid (all_given histories (record g { line = lines.Bearer c options } ∷ past)).bearers
    ≡ Some (first_bearer c)
bearer_comes newer past g c options low none kind =
    let l = c.channel.lcid in
    let line = lines.Bearer c options in
    let now : Group = record g { line = line } in
    let goes = one_bearer_by_histories l newer now past low in
    goes.ends
    ∙ ap (λ (told : List Record). bearer_submits histories l (left_by line told) (bearer_first l now past told)) none
    ∙ goes.begins
    ∙ ap (λ (b : Bool). if b then bearer_begun histories c.kind c.first c.pdcp_bits
    else bearer_at l (all_given histories past).bearers) (eq-eqb l l refl)
    ∙ ap (λ (k : Kind). bearer_begun histories k c.first c.pdcp_bits) kind

pub begins_given : (all newer : List Group) (past : List Group) (g : Group) (c : BearerConfig) (options : _)
    → all ≡ newer ++ record g { line = lines.Bearer c options } ∷ past
    → IsRight past (record g { line = lines.Bearer c options }) → KeepsOrder past → c.kind ≡ bearers.Am
    → GoesBehind all c c.channel.lcid (record g { line = lines.Bearer c options } ∷ past)
begins_given all newer past g c options are right order kind =
    let l = c.channel.lcid in
    let line = lines.Bearer c options in
    let groups : List Group = record g { line = line } ∷ past in
    let x = comes past g c options right order in
    let there = link_behind groups in
    let acked : IsAcknowledged c.kind = subst (λ (k : Kind). IsAcknowledged k) (sym kind) tt in
    let first = begins (may all) past g c options right order acked in
    let alike : AmEndsBeginAlike l c x.keys there.nb there.ue = record {
      kind = kind;
      config = x.config;
      first = x.first;
      nb_begun = x.begun Nb;
      ue_begun = x.begun Ue;
    } in
    let tied = ties_begin l c x.keys there.nb there.ue alike in
    let bearer = first_bearer c in
    let given : IsGivenBehind all c l groups first.behind = record {
      keys = x.keys;
      nb = there.nb;
      ue = there.ue;
      begins = alike;
      steps = [];
      living = tt;
      there = first.air_is;
      tied = tied;
      account_is = λ from. sym (ap (λ (hs : List AccountEntry). account hs no_account)
          (x.early.none_happened c.pdcp_bits l from));
      bearer = bearer;
      is = bearer_comes newer past g c options first.behind.low first.none kind;
      given = subst (λ (m : Moment). AreGivenBy c tied.joined.there tied.joined.back tied.joined.one tied.joined.two
          m.down m.up bearer.nb bearer.ue) (sym first.moment_is)
          (given_begins l c x.keys there.nb there.ue alike);
      agree = record {
        alike = first.behind.alike;
        same = λ side.
            ap (λ (told : List Record).
            (behind_records flows (may all) past (kinds groups) [] told
            (behind_line flows line (gathered (may all) past))).flows.acked side l) first.none
            ∙ ap (λ (j : Journal Histories). j.flows.acked side l) (sym first.journal_is);
      };
    } in
    record {
      read = first.behind;
      given = given;
      said = λ told one rest e. absurd (none_left told one rest (sym first.none ∙ e));
      fails = begins_fail (may all) past g c options first given.agree;
    }
