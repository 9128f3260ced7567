-- What PDCP reads in a group, by the SDUs that its flow hands up in it.
use Rattle.std.proofs.Common.{◌≡◌, ℕ, ◌-◌, Bool, true, false, ◌||◌, List, [], ◌∷◌, ◌++◌, refl, ap, sym}
use Rattle.std.proofs.Common.{◌∙◌, arith, append_assoc, append-nil, if◌then◌else◌}
use Rattle.std.specs.Prelude.{max, ◌==◌}
use Rattle.std.proofs.lemmas.List.{append_cancel_left, map-append}
use Rattle.std.proofs.lemmas.Bool.{false≢true}
use Rattle.l2_num.specs.Least.{past as first_past}
use Rattle.eps_sec.specs.declared.Keys.{Keys}
use Rattle.l2_types.specs.declared.side.Side.{Side}
use Rattle.bearer_types.specs.declared.config.BearerConfig.{BearerConfig}
use Rattle.air_record.specs.declared.line.Line.{Line}
use Rattle.air_record.specs.declared.line.Line.TheVariants as lines
use Rattle.air_text.specs.Groups.{Group}
use Rattle.promises.specs.Blocks.{kinds}
use Rattle.promises.specs.Keys.{keys_in_force}
use Rattle.promises.specs.Parts.{is_handover}
use Rattle.journal_um.specs.declared.pieces.JoinedSdu.{JoinedSdu}
use Rattle.journal_um.specs.UmEvents.{running}
use Rattle.journal_um.specs.UmNumbers.{pdu_of, is_accepted}
use Rattle.journal_um.specs.UmSdus.{row_below, sdus_in, joined_in, all_joined_in, handed_before, handed_in}
use Rattle.journal_um.specs.UmWindow.{width_of}
use Rattle.journal_flows.specs.Gathering.{Journal, MayTake, behind, behind_line, behind_end, within}
use Rattle.journal_flows.specs.Gathering as gathering
use Rattle.journal_flows.specs.FlowsTold.{Histories, histories, no_events, um_flows_told, um_flows_within}
use Rattle.journal_flows.specs.Laws.{begins_on}
use Rattle.journal_flows.specs.UmPdus.{UmFlowEvent, come_in}
use Rattle.journal_flows.specs.UmPdus as pdus
use Rattle.journal_edge.specs.UmReading.{all_read}
use Rattle.journal_edge.specs.EdgeChecking.{octets_in}
use Rattle.journal_edge.specs.RightEdge.{protection, life_keys, life_read, life_told, life_within, life_ended}
use Rattle.journal_edge.specs.RightEdge.{read_before, um_read, read_till}
use Rattle.journal_edge.proofs.Readings.{next_after, next_append, read_append}
use Rattle.journal_edge.proofs.Living.{before, records_keep}

-- ---- lists

pub octets_append : (xs ys : List JoinedSdu) → octets_in (xs ++ ys) ≡ octets_in xs ++ octets_in ys
octets_append xs ys = map-append (λ (sdu : JoinedSdu). sdu.octets) xs ys

cut : (hb a j new : List JoinedSdu) → hb ++ a ≡ (hb ++ j) ++ new → a ≡ j ++ new
cut hb a j new e = append_cancel_left hb a (j ++ new) (e ∙ append_assoc hb j new)

-- ---- SDUs of a life that are read in parts

abbrev pub next_read : Side → BearerConfig → Keys → List JoinedSdu → ℕ
next_read from config keys sdus =
    next_after config.pdcp_bits (protection from config keys) 0 (octets_in sdus)

abbrev pub more_read : Side → BearerConfig → Keys → ℕ → List JoinedSdu → List (List ℕ)
more_read from config keys next sdus =
    all_read config.pdcp_bits (protection from config keys) next (octets_in sdus)

pub read_more : (from : Side) (config : BearerConfig) (keys : Keys) (joined new all : List JoinedSdu)
    → all ≡ joined ++ new
    → life_read from config keys all
    ≡ life_read from config keys joined ++ more_read from config keys (next_read from config keys joined) new
read_more from config keys joined new all e =
    let p = protection from config keys in
    ap (λ (l : List JoinedSdu). all_read config.pdcp_bits p 0 (octets_in l)) e
    ∙ ap (λ (l : List (List ℕ)). all_read config.pdcp_bits p 0 l) (octets_append joined new)
    ∙ read_append config.pdcp_bits p 0 (octets_in joined) (octets_in new)

pub next_more : (from : Side) (config : BearerConfig) (keys : Keys) (joined new all : List JoinedSdu)
    → all ≡ joined ++ new
    → next_read from config keys all ≡ next_after config.pdcp_bits (protection from config keys)
    (next_read from config keys joined) (octets_in new)
next_more from config keys joined new all e =
    let p = protection from config keys in
    ap (λ (l : List JoinedSdu). next_after config.pdcp_bits p 0 (octets_in l)) e
    ∙ ap (λ (l : List (List ℕ)). next_after config.pdcp_bits p 0 l) (octets_append joined new)
    ∙ next_append config.pdcp_bits p 0 (octets_in joined) (octets_in new)

-- ---- a life that begins hands nothing up

none_base : (w : ℕ) → max (0 - w) 0 ≡ 0
none_base w = omega arith

pub none_joined : (w : ℕ) → joined_in w [] ≡ []
none_joined w = ap (λ (n : ℕ). sdus_in (row_below (pdu_of w []) (first_past (is_accepted w []) 0 n))) (none_base w)

-- ---- histories

pub same_handover : (line : Line) → gathering.is_handover line ≡ is_handover line
same_handover (lines.Handover user rrc integrity) = refl
same_handover line = refl

abbrev journal : MayTake → Group → List Group → Journal Histories
journal may_take now past = within histories may_take now past (behind histories no_events may_take past)

pub told_on : (may_take : MayTake) (now : Group) (past : List Group) (from : Side) (l : ℕ)
    → is_handover now.line ≡ false
    → um_flows_told may_take (now ∷ past) from l ≡ um_flows_within may_take now past from l
told_on may_take now past from l e =
    by (gathering.is_handover now.line) (same_handover now.line ∙ e) (journal may_take now past)
  where
    by : (b : Bool) → b ≡ false → (j : Journal Histories)
        → (behind_end histories b j).flows.unacked from l ≡ j.flows.unacked from l
    by false e j = refl
    by true e j = absurd (false≢true (sym e))

pub told_over : (may_take : MayTake) (now : Group) (past : List Group) (from : Side) (l : ℕ)
    → is_handover now.line ≡ true
    → um_flows_told may_take (now ∷ past) from l
    ≡ pdus.LifeEnded ∷ um_flows_within may_take now past from l
told_over may_take now past from l e =
    by (gathering.is_handover now.line) (same_handover now.line ∙ e) (journal may_take now past)
  where
    by : (b : Bool) → b ≡ true → (j : Journal Histories)
        → (behind_end histories b j).flows.unacked from l ≡ pdus.LifeEnded ∷ j.flows.unacked from l
    by true e j = refl
    by false e j = absurd (false≢true e)

line_keeps : (w : ℕ) (from : Side) (l : ℕ) (line : Line) → begins_on line l ≡ false → (j : Journal Histories)
    → before w from l (behind_line histories line j).flows ≡ before w from l j.flows
line_keeps w from l (lines.Bearer config options) e j = by (config.channel.lcid == l) e
  where
    by : (b : Bool) → b ≡ false
        → handed_before w (come_in (if b then [] else j.flows.unacked from l)) ≡ before w from l j.flows
    by false e = refl
    by true e = absurd (false≢true (sym e))
line_keeps w from l line e j = refl

line_begins : (w : ℕ) (from : Side) (l : ℕ) (line : Line) → begins_on line l ≡ true → (j : Journal Histories)
    → before w from l (behind_line histories line j).flows ≡ []
line_begins w from l (lines.Bearer config options) e j = by (config.channel.lcid == l) e
  where
    by : (b : Bool) → b ≡ true → handed_before w (come_in (if b then [] else j.flows.unacked from l)) ≡ []
    by true e = refl
    by false e = absurd (false≢true e)
line_begins w from l line e j = absurd (false≢true e)

pub within_keeps : (w : ℕ) (may_take : MayTake) (now : Group) (past : List Group) (from : Side) (l : ℕ)
    → begins_on now.line l ≡ false
    → handed_before w (come_in (um_flows_within may_take now past from l))
    ≡ handed_before w (come_in (um_flows_told may_take past from l))
within_keeps w may_take now past from l e =
    let j = behind histories no_events may_take past in
    records_keep w from l may_take past (kinds (now ∷ past)) [] now.events (behind_line histories now.line j)
    ∙ line_keeps w from l now.line e j

pub within_begins : (w : ℕ) (may_take : MayTake) (now : Group) (past : List Group) (from : Side) (l : ℕ)
    → begins_on now.line l ≡ true
    → handed_before w (come_in (um_flows_within may_take now past from l)) ≡ []
within_begins w may_take now past from l e =
    let j = behind histories no_events may_take past in
    records_keep w from l may_take past (kinds (now ∷ past)) [] now.events (behind_line histories now.line j)
    ∙ line_begins w from l now.line e j

pub begins_no_handover : (line : Line) (l : ℕ) → begins_on line l ≡ true → is_handover line ≡ false
begins_no_handover (lines.Bearer config options) l e = refl
begins_no_handover line l e = absurd (false≢true e)

-- ---- a group: what is new of what the flow has handed up, as the group ends

abbrev pub handed : MayTake → Side → ℕ → BearerConfig → List Group → List JoinedSdu
handed may_take from l config past =
    handed_in (width_of config.rlc_bits) (come_in (um_flows_told may_take past from l))

abbrev pub joined : MayTake → Side → ℕ → BearerConfig → List Group → List JoinedSdu
joined may_take from l config past =
    joined_in (width_of config.rlc_bits) (life_told may_take from l past)

abbrev pub next_at : MayTake → Side → ℕ → BearerConfig → List Group → ℕ
next_at may_take from l config past =
    next_read from config (life_keys l past) (joined may_take from l config past)

-- by the keys and the next COUNT of its reader as it begins
pub record IsGroupRead (may_take : MayTake) (now : Group) (past : List Group) (from : Side) (l : ℕ)
    (config : BearerConfig) (keys : Keys) (next : ℕ) (new : List JoinedSdu) : Type 0 where
  pub read_is : um_read may_take from l config (now ∷ past)
      ≡ read_till may_take now past from l config ++ more_read from config keys next new

-- where it is of no handover, its reader goes on
pub record GoesOn (may_take : MayTake) (now : Group) (past : List Group) (from : Side) (l : ℕ)
    (config : BearerConfig) (keys : Keys) (next : ℕ) (new : List JoinedSdu) : Type 0 where
  pub read : IsGroupRead may_take now past from l config keys next new
  pub next_is : next_at may_take from l config (now ∷ past)
      ≡ next_after config.pdcp_bits (protection from config keys) next (octets_in new)
  pub keys_are : life_keys l (now ∷ past) ≡ keys

-- and in a handover it begins anew
pub record HandsOver (may_take : MayTake) (now : Group) (past : List Group) (from : Side) (l : ℕ)
    (config : BearerConfig) (keys : Keys) (next : ℕ) (new : List JoinedSdu) : Type 0 where
  pub read : IsGroupRead may_take now past from l config keys next new
  pub next_is : next_at may_take from l config (now ∷ past) ≡ 0
  pub keys_are : life_keys l (now ∷ past) ≡ keys_in_force (now ∷ past)

-- ---- the bearer begins with it

pub group_begins : (may_take : MayTake) (now : Group) (past : List Group) (from : Side) (l : ℕ)
    (config : BearerConfig) (new : List JoinedSdu) → begins_on now.line l ≡ true
    → handed may_take from l config (now ∷ past) ≡ new
    → GoesOn may_take now past from l config (keys_in_force (now ∷ past)) 0 new
group_begins may_take now past from l config new e hand =
    let w = width_of config.rlc_bits in
    let K = keys_in_force (now ∷ past) in
    let K' = life_keys l (now ∷ past) in
    let all = joined may_take from l config (now ∷ past) in
    let still = begins_no_handover now.line l e in
    let told = told_on may_take now past from l still in
    let first : handed_before w (come_in (um_flows_told may_take (now ∷ past) from l)) ≡ [] =
    ap (λ (es : List UmFlowEvent). handed_before w (come_in es)) told
    ∙ within_begins w may_take now past from l e in
    let all_is : all ≡ new = ap (λ (hb : List JoinedSdu). hb ++ all) (sym first) ∙ hand in
    let keys_are : K' ≡ K = ap (λ (b : Bool). if b || is_handover now.line then K else life_keys l past) e in
    let none : read_before may_take from l config (now ∷ past) ≡ [] =
    ap (λ (b : Bool). if b then [] else read_before may_take from l config past
    ++ life_ended may_take from l config now past) e in
    let till : read_till may_take now past from l config ≡ [] =
    ap (λ (b : Bool). if b then [] else um_read may_take from l config past) e in
    record {
      read = record {
        read_is = ap (λ (r : List (List ℕ)). r ++ life_read from config K' all) none
            ∙ ap (λ (k : Keys). life_read from config k all) keys_are
            ∙ ap (λ (sdus : List JoinedSdu). life_read from config K sdus) all_is
            ∙ ap (λ (r : List (List ℕ)). r ++ more_read from config K 0 new) (sym till);
      };
      next_is = ap (λ (k : Keys). next_read from config k all) keys_are
          ∙ ap (λ (sdus : List JoinedSdu). next_read from config K sdus) all_is;
      keys_are = keys_are;
    }

-- ---- it is of neither

abbrev keys_by : Bool → Bool → Keys → Keys → Keys
keys_by b h K L = if b || h then K else L

pub group_goes_on : (may_take : MayTake) (now : Group) (past : List Group) (from : Side) (l : ℕ)
    (config : BearerConfig) (new : List JoinedSdu) → begins_on now.line l ≡ false
    → is_handover now.line ≡ false
    → handed may_take from l config (now ∷ past) ≡ handed may_take from l config past ++ new
    → GoesOn may_take now past from l config (life_keys l past) (next_at may_take from l config past) new
group_goes_on may_take now past from l config new e h hand =
    let w = width_of config.rlc_bits in
    let L = life_keys l past in
    let K = keys_in_force (now ∷ past) in
    let K' = life_keys l (now ∷ past) in
    let R = read_before may_take from l config past in
    let all = joined may_take from l config (now ∷ past) in
    let j = joined may_take from l config past in
    let hb = handed_before w (come_in (um_flows_told may_take past from l)) in
    let told = told_on may_take now past from l h in
    let keep : handed_before w (come_in (um_flows_told may_take (now ∷ past) from l)) ≡ hb =
    ap (λ (es : List UmFlowEvent). handed_before w (come_in es)) told
    ∙ within_keeps w may_take now past from l e in
    let all_is : all ≡ j ++ new = cut hb all j new (ap (λ (x : List JoinedSdu). x ++ all) (sym keep) ∙ hand) in
    let keys_are : K' ≡ L = ap (λ (b : Bool). keys_by b (is_handover now.line) K L) e
    ∙ ap (λ (b : Bool). keys_by false b K L) h in
    let before_is : read_before may_take from l config (now ∷ past) ≡ R =
    ap (λ (b : Bool). if b then [] else R ++ life_ended may_take from l config now past) e
    ∙ ap (λ (b : Bool). R ++ (if b then life_read from config L
    (all_joined_in w (life_within may_take from l now past)) else [])) h
    ∙ append-nil R in
    let till : read_till may_take now past from l config ≡ um_read may_take from l config past =
    ap (λ (b : Bool). if b then [] else um_read may_take from l config past) e in
    let more = more_read from config L (next_read from config L j) new in
    record {
      read = record {
        read_is = ap (λ (r : List (List ℕ)). r ++ life_read from config K' all) before_is
            ∙ ap (λ (k : Keys). R ++ life_read from config k all) keys_are
            ∙ ap (λ (x : List (List ℕ)). R ++ x) (read_more from config L j new all all_is)
            ∙ sym (append_assoc R (life_read from config L j) more)
            ∙ ap (λ (r : List (List ℕ)). r ++ more) (sym till);
      };
      next_is = ap (λ (k : Keys). next_read from config k all) keys_are ∙ next_more from config L j new all all_is;
      keys_are = keys_are;
    }

-- ---- it is of a handover

pub group_hands_over : (may_take : MayTake) (now : Group) (past : List Group) (from : Side) (l : ℕ)
    (config : BearerConfig) (new : List JoinedSdu) → begins_on now.line l ≡ false
    → is_handover now.line ≡ true
    → handed may_take from l config (now ∷ past) ≡ handed may_take from l config past ++ new
    → HandsOver may_take now past from l config (life_keys l past) (next_at may_take from l config past) new
group_hands_over may_take now past from l config new e h hand =
    let w = width_of config.rlc_bits in
    let L = life_keys l past in
    let K = keys_in_force (now ∷ past) in
    let K' = life_keys l (now ∷ past) in
    let R = read_before may_take from l config past in
    let ended = all_joined_in w (life_within may_take from l now past) in
    let j = joined may_take from l config past in
    let hb = handed_before w (come_in (um_flows_told may_take past from l)) in
    let inner = come_in (um_flows_within may_take now past from l) in
    let told = told_over may_take now past from l h in
    let whole : handed may_take from l config (now ∷ past) ≡ handed_before w inner ++ ended =
    ap (λ (es : List UmFlowEvent). handed_in w (come_in es)) told
    ∙ ap (λ (x : List JoinedSdu). (handed_before w inner ++ ended) ++ x) (none_joined w)
    ∙ append-nil (handed_before w inner ++ ended) in
    let all_is : ended ≡ j ++ new = cut hb ended j new
    (ap (λ (x : List JoinedSdu). x ++ ended) (sym (within_keeps w may_take now past from l e))
    ∙ sym whole ∙ hand) in
    let keys_are : K' ≡ K = ap (λ (b : Bool). keys_by b (is_handover now.line) K L) e
    ∙ ap (λ (b : Bool). keys_by false b K L) h in
    let before_is : read_before may_take from l config (now ∷ past) ≡ R ++ life_read from config L ended =
    ap (λ (b : Bool). if b then [] else R ++ life_ended may_take from l config now past) e
    ∙ ap (λ (b : Bool). R ++ (if b then life_read from config L ended else [])) h in
    let none : joined may_take from l config (now ∷ past) ≡ [] =
    ap (λ (es : List UmFlowEvent). joined_in w (running (come_in es))) told ∙ none_joined w in
    let till : read_till may_take now past from l config ≡ um_read may_take from l config past =
    ap (λ (b : Bool). if b then [] else um_read may_take from l config past) e in
    let more = more_read from config L (next_read from config L j) new in
    record {
      read = record {
        read_is = ap (λ (sdus : List JoinedSdu). read_before may_take from l config (now ∷ past)
            ++ life_read from config K' sdus) none
            ∙ append-nil (read_before may_take from l config (now ∷ past)) ∙ before_is
            ∙ ap (λ (x : List (List ℕ)). R ++ x) (read_more from config L j new ended all_is)
            ∙ sym (append_assoc R (life_read from config L j) more)
            ∙ ap (λ (r : List (List ℕ)). r ++ more) (sym till);
      };
      next_is = ap (λ (sdus : List JoinedSdu). next_read from config K' sdus) none;
      keys_are = keys_are;
    }
