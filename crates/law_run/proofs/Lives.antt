-- Through every line the steps of a channel go on in all lives, and in one life.
use Rattle.std.proofs.Common.{◌≡◌, ℕ, Bool, false, ◌||◌, Option}
use Rattle.std.proofs.Common.{List, [], ◌∷◌, ◌++◌, append-nil, append_assoc, refl, ap, sym, ◌∙◌}
use Rattle.air_link.specs.Link.{Link}
use Rattle.air_record.specs.declared.line.Line.{Line}
use Rattle.air_record.specs.declared.line.Line.TheVariants as lines
use Rattle.air_record.specs.declared.record.Record.{Record}
use Rattle.air_run.specs.Playing.{keys_or_none, acted, played}
use Rattle.air_record.specs.Cells.{next_keys}
use Rattle.air_text.specs.Ranges.{IsInRange}
use Rattle.eps_sec.specs.declared.Keys.{Keys}
use Rattle.l2_types.specs.declared.side.Side.{Side}
use Rattle.law_run.specs.AnyCalls.Calls as calls
use Rattle.bearer_types.specs.Sides.{sent_by}
use Rattle.law_run.specs.AnyCalls.Runs.{Step, Calls}
use Rattle.l2_node.specs.End.{End}
use Rattle.law_deliver.specs.AmFlow.Air.{outset}
use Rattle.promises.specs.Arrival.{entries_ended}
use Rattle.law_words.specs.Arrivals.{AccountEntry}
use Rattle.law_run.specs.TwoEnds.Going.{GoesByAir, IsStepSince}
use Rattle.law_run.specs.TwoEnds.Staying.{is_handover_step}
use Rattle.law_run.proofs.TwoEnds.Coming.{ends_come_by, come_as, steps_come}
use Rattle.law_run.proofs.TwoEnds.Staying.{LivedIn, ends_live_in, lived_in_as, steps_live_in}
use Rattle.law_run.specs.TwoEnds.Shown.{IsShown, anew}
use Rattle.law_run.proofs.TwoEnds.Showing.{in_then}
use Rattle.um_losses.specs.declared.cursor.Cursor.{Cursor}
use Rattle.um_losses.specs.declared.flow.Happening.{Happening}
use Rattle.um_losses.specs.Told.{told_in, place_behind}
use Rattle.law_deliver.specs.UmGaps.Whats.{whats}
use Rattle.promises.specs.Delivery.{forges, sets_timer}
use Rattle.promises.specs.Parts.{Part, Rests, part_of_line}
use Rattle.law_run.proofs.BearerWalk.{adds_one}
use Rattle.law_run.proofs.Flowing.{Sdus, Happened, Haps, word_of, with_word, StepLives, GoesThrough, PartLives}
use Rattle.law_run.proofs.Flowing.{step_plays, line_stays}

-- ---- of all lives

cancel : (first xs ys : List Record) → first ++ xs ≡ first ++ ys → xs ≡ ys
cancel [] xs ys e = e
cancel (one ∷ first) xs ys e = let rest : first ++ xs ≡ first ++ ys = cc in cancel first xs ys rest

not_anew : (s : Step) → is_handover_step s ≡ false → anew s ≡ []
not_anew (Calls (calls.HandsOver keys)) own = absurd cc
not_anew s own = refl

module _ (l : ℕ) (nb ue : End) (bits : ℕ) (Um : Type 0) where
  -- since both ends were these a link has come by air to what it is, and where the PDUs of the channel are those of
  -- unacknowledged RLC, that was so much to a flow from each side
  pub record Lived (told : List Record) (handed : Sdus) (flown : Happened) (haps : Haps) (set : Bool) (k : Link) :
      Type 0 where
    pub by : GoesByAir l told handed flown set k (outset nb ue)
    pub kinds : Um → IsShown l bits k.kinds
    pub whats_are : Um → (from : Side) → whats from l bits by.steps (outset nb ue) ≡ haps from

  -- and since these records more have told what it was
  pub record LivesOn (first : List Record) (haps : Haps) (told : List Record) (handed : Sdus) (flown : Happened)
      (set : Bool) (k : Link) : Type 0 where
    pub by : GoesByAir l told handed flown set k (outset nb ue)
    pub kinds : Um → IsShown l bits k.kinds
    pub since : List Record
    pub told_is : told ≡ first ++ since
    pub whats_are : Um → (from : Side) (place : Cursor)
        → whats from l bits by.steps (outset nb ue) ≡ haps from ++ told_in (sent_by from) l place since

  -- records aren't looked at
  pub unseen : (told : List Record) (handed : Sdus) (flown : Happened) (haps : Haps) (set : Bool) (k : Link)
      (out : List Record) → Lived told handed flown haps set k
      → Lived told handed flown haps set (record k { out = out })
  unseen told handed flown haps set k out h =
      record {
        by =
            ends_come_by l told handed flown set k (record k { out = out }) (outset nb ue) refl refl refl h.by;
        kinds = h.kinds;
        whats_are = h.whats_are;
      }

  -- a step, behind a word of each flow
  goes_anew : (told : List Record) (handed : Sdus) (flown : Happened) (haps : Haps) (set : Bool) (s : Step) (k : Link)
      → IsStepSince l s → Lived told handed flown haps set k
      → StepLives l (LivesOn told (with_word (anew s) haps)) told handed flown set s k
  goes_anew told handed flown haps set s k g h =
      let x = steps_come l told handed flown set s k (outset nb ue) g h.by in
      record {
        more = x.more;
        out_is = x.out_is;
        alone = x.alone;
        log_alone = x.log_alone;
        lived = record {
          by = x.by;
          kinds = λ um. x.stays bits (h.kinds um);
          since = x.more;
          told_is = refl;
          whats_are = λ um from place.
              let two = told_in (sent_by from) l place x.more in
              x.shown bits (h.kinds um) from place
              ∙ (ap (λ (hs : List Happening). hs ++ (anew s ++ two)) (h.whats_are um from)
              ∙ sym (append_assoc (haps from) (anew s) two));
        };
      }

  module _ (first : List Record) (haps : Haps) where
    steps_on : (told : List Record) (handed : Sdus) (flown : Happened) (set : Bool) (s : Step) (k : Link)
        → IsStepSince l s → is_handover_step s ≡ false → LivesOn first haps told handed flown set k
        → StepLives l (LivesOn first haps) told handed flown set s k
    steps_on told handed flown set s k g own h =
        let x = steps_come l told handed flown set s k (outset nb ue) g h.by in
        record {
          more = x.more;
          out_is = x.out_is;
          alone = x.alone;
          log_alone = x.log_alone;
          lived = record {
            by = x.by;
            kinds = λ um. x.stays bits (h.kinds um);
            since = h.since ++ x.more;
            told_is = ap (λ (xs : List Record). xs ++ x.more) h.told_is ∙ append_assoc first h.since x.more;
            whats_are = λ um from place.
                let one = told_in (sent_by from) l place h.since in
                let two = told_in (sent_by from) l (place_behind place h.since) x.more in
                x.shown bits (h.kinds um) from (place_behind place h.since)
                ∙ (ap (λ (hs : List Happening). whats from l bits h.by.steps (outset nb ue) ++ (hs ++ two))
                (not_anew s own)
                ∙ (ap (λ (hs : List Happening). hs ++ two) (h.whats_are um from place)
                ∙ (append_assoc (haps from) one two
                ∙ ap (λ (hs : List Happening). haps from ++ hs)
                (sym (in_then (sent_by from) l place h.since x.more)))));
          };
        }

    pub through : GoesThrough l (LivesOn first haps)
    through = record {
      same = λ told told' handed handed' flown flown' set set' k e f a g h.
          record {
            by = come_as l (outset nb ue) told told' handed handed' flown flown' set set' k e f a g h.by;
            kinds = h.kinds;
            since = h.since;
            told_is = sym e ∙ h.told_is;
            whats_are = h.whats_are;
          };
      unseen = λ told handed flown set k out h.
          record {
            by =
                ends_come_by l told handed flown set k (record k { out = out }) (outset nb ue) refl refl refl h.by;
            kinds = h.kinds;
            since = h.since;
            told_is = h.told_is;
            whats_are = h.whats_are;
          };
      steps = steps_on;
    }

    abbrev pub LineLives : List Record → Sdus → Happened → Bool → List AccountEntry → Part → Link → Type 0
    LineLives = PartLives l (LivesOn first haps) through

    -- behind a line
    pub lived_now : (more : List Record) (handed : Sdus) (flown : Happened) (set : Bool) (k : Link) (place : Cursor)
        → LivesOn first haps (first ++ more) handed flown set k
        → Lived (first ++ more) handed flown (λ from. haps from ++ told_in (sent_by from) l place more) set k
    lived_now more handed flown set k place h = record {
      by = h.by;
      kinds = h.kinds;
      whats_are = λ um from. h.whats_are um from place
          ∙ ap (λ (xs : List Record). haps from ++ told_in (sent_by from) l place xs)
          (cancel first h.since more (sym h.told_is));
    }

  -- at the beginning of a line that says nothing of a flow
  lives_first : (word : List Happening) (told : List Record) (handed : Sdus) (flown : Happened) (haps : Haps)
      (set : Bool)
      (k : Link) → word ≡ [] → Lived told handed flown haps set k
      → LivesOn told (with_word word haps) told handed flown set k
  lives_first word told handed flown haps set k none h = record {
    by = h.by;
    kinds = h.kinds;
    since = [];
    told_is = sym (append-nil told);
    whats_are = λ um from place. h.whats_are um from
        ∙ (sym (append-nil (haps from))
        ∙ (ap (λ (hs : List Happening). haps from ++ hs) (sym none) ∙ sym (append-nil (haps from ++ word))));
  }

  pub line_lives : (told : List Record) (handed : Sdus) (flown : Happened) (haps : Haps) (set : Bool) (line : Line)
      (keys : Option Keys) (k : Link) → k.out ≡ [] → IsInRange line → adds_one l line ≡ false → forges line ≡ false
      → Lived told handed flown haps set k
      → LineLives told (with_word (word_of line) haps) told handed flown (set || sets_timer l line) (entries_ended line)
      (part_of_line line) (played line keys k)
  unfolding acted
  line_lives told handed flown haps set (lines.Handover user rrc integrity) keys k nothing fits other own h =
      let s = Calls (calls.HandsOver (next_keys user rrc integrity (keys_or_none keys))) in
      step_plays l (LivesOn told (with_word (anew s) haps)) (through told (with_word (anew s) haps)) told handed flown
      set s k Rests nothing (λ side n. refl) (goes_anew told handed flown haps set s k tt h)
  line_lives told handed flown haps set line keys k nothing fits other own h =
      let word = word_of line in
      line_stays l (LivesOn told (with_word word haps)) (through told (with_word word haps)) told handed flown set
      line keys k nothing fits other own refl (lives_first word told handed flown haps set k refl h)

-- ---- of one life

module _ (l : ℕ) (nb ue : End) where
  abbrev pub InOneLife : List Record → Sdus → Happened → Bool → Link → Type 0
  InOneLife told handed flown set k = LivedIn l nb ue told handed flown set k

  life_steps : (told : List Record) (handed : Sdus) (flown : Happened) (set : Bool) (s : Step) (k : Link)
      → IsStepSince l s → is_handover_step s ≡ false → LivedIn l nb ue told handed flown set k
      → StepLives l InOneLife told handed flown set s k
  life_steps told handed flown set s k g own h = let x = steps_live_in l nb ue told handed flown set s k g own h in
      record { more = x.more; out_is = x.out_is; alone = x.alone; log_alone = x.log_alone; lived = x.lived }

  pub through_life : GoesThrough l InOneLife
  through_life = record {
    same = λ told told' handed handed' flown flown' set set' k e f a g h. lived_in_as l nb ue told told' handed
        handed' flown flown' set set' k e f a g h;
    unseen = λ told handed flown set k out h. ends_live_in l nb ue told handed flown set k (record k { out = out }) refl
        refl refl h;
    steps = life_steps;
  }
