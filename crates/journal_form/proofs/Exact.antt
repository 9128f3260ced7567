-- The checker's verdict is exact: behind the groups of any journal it is true where their new
-- blocks have right form.
use Rattle.std.proofs.Common.{◌≡◌, ◌↔◌, true, ◌&&◌, List, [], ◌∷◌, ◌++◌, Option, refl, ap, sym, ◌∙◌, subst}
use Rattle.std.specs.Prelude.{IsTrue}
use Rattle.std.specs.List.{filter}
use Rattle.std.proofs.lemmas.Bool.{and_parts, and_from}
use Rattle.l2_types.specs.declared.side.Side.TheVariants.{Nb, Ue}
use Rattle.air_record.specs.declared.record.Record.{Record}
use Rattle.air_text.specs.Groups.{Group}
use Rattle.pdu_show.specs.declared.kinds.Layout.{Layout}
use Rattle.promises.specs.Blocks.{kinds, kinds_by}
use Rattle.promises.specs.Names.{SentPdu}
use Rattle.promises.specs.RightForm.{HasForm, FormIsRight, is_built}
use Rattle.journal_form.specs.Checking.{Checking, Building, Showing, ends, goes_on, after_line, all_checked}
use Rattle.journal_form.specs.Checking.{is_right}
use Rattle.journal_form.proofs.Units.{all_kinds, all_down, all_up, all_told, Form, named}
use Rattle.journal_form.proofs.Units.{sound as built_sound, complete as built_complete, was_right as was_built}
use Rattle.journal_form.proofs.Shows.{all_showing, all_shown_to, Stood}
use Rattle.promises.proofs.ShownBlocks.{AllShown}
use Rattle.journal_form.proofs.Shows.{sound as shown_sound, complete as shown_complete, was_right as was_shown}

-- between groups nothing is left, and the bearers are those of the lines
record Clean (past : List Group) (c : Checking) : Type 0 where
  kinds_are : c.kinds ≡ kinds past
  down : c.down.sent ≡ []
  up : c.up.sent ≡ []
  shown : c.showing.awaited ≡ []

clean : (past : List Group) → Clean past (all_checked past)
clean [] = record { kinds_are = refl; down = refl; up = refl; shown = refl }
clean (g ∷ past) =
    let c = all_checked past in
    record {
      kinds_are = all_kinds g.events (after_line g.line c) ∙ ap (kinds_by g.line) (clean past).kinds_are;
      down = refl;
      up = refl;
      shown = refl;
    }

record Parts (past : List Group) (g : Group) (c : Checking) : Type 0 where
  down : (ends (all_told Nb (kinds (g ∷ past)) g.events c.down)).right ≡ true
  up : (ends (all_told Ue (kinds (g ∷ past)) g.events c.up)).right ≡ true
  shown : (goes_on (all_shown_to (kinds (g ∷ past)) g.events c.showing)).right ≡ true

now_kinds : (past : List Group) (g : Group) → (after_line g.line (all_checked past)).kinds ≡ kinds (g ∷ past)
now_kinds past g = ap (kinds_by g.line) (clean past).kinds_are

down_right : (past : List Group) (g : Group)
    → (all_checked (g ∷ past)).down
    ≡ ends (all_told Nb (kinds (g ∷ past)) g.events (all_checked past).down)
down_right past g =
    ap ends (all_down g.events (after_line g.line (all_checked past))
    ∙ ap (λ (k : List (Option Layout)). all_told Nb k g.events (all_checked past).down) (now_kinds past g))

up_right : (past : List Group) (g : Group)
    → (all_checked (g ∷ past)).up
    ≡ ends (all_told Ue (kinds (g ∷ past)) g.events (all_checked past).up)
up_right past g =
    ap ends (all_up g.events (after_line g.line (all_checked past))
    ∙ ap (λ (k : List (Option Layout)). all_told Ue k g.events (all_checked past).up) (now_kinds past g))

shown_right : (past : List Group) (g : Group)
    → (all_checked (g ∷ past)).showing
    ≡ goes_on (all_shown_to (kinds (g ∷ past)) g.events (all_checked past).showing)
shown_right past g =
    ap goes_on (all_showing g.events (after_line g.line (all_checked past))
    ∙ ap (λ (k : List (Option Layout)). all_shown_to k g.events (all_checked past).showing) (now_kinds past g))

parts : (past : List Group) (g : Group) → is_right (all_checked (g ∷ past)) ≡ true → Parts past g (all_checked past)
parts past g e =
    let x = all_checked (g ∷ past) in
    let p = and_parts (x.down.right && x.up.right) x.showing.right e in
    let q = and_parts x.down.right x.up.right p.0 in
    record {
      down = ap (λ (b : Building). b.right) (sym (down_right past g)) ∙ q.0;
      up = ap (λ (b : Building). b.right) (sym (up_right past g)) ∙ q.1;
      shown = ap (λ (s : Showing). s.right) (sym (shown_right past g)) ∙ p.1;
    }

whole : (past : List Group) (g : Group) → Parts past g (all_checked past) → is_right (all_checked (g ∷ past)) ≡ true
whole past g h =
    let x = all_checked (g ∷ past) in
    and_from (x.down.right && x.up.right) x.showing.right
    (and_from x.down.right x.up.right (ap (λ (b : Building). b.right) (down_right past g) ∙ h.down)
    (ap (λ (b : Building). b.right) (up_right past g) ∙ h.up))
    (ap (λ (s : Showing). s.right) (shown_right past g) ∙ h.shown)

sound : (past : List Group) → is_right (all_checked past) ≡ true → FormIsRight past
sound [] e = tt
sound (g ∷ past) e =
    let c = all_checked past in
    let k = kinds (g ∷ past) in
    let p = parts past g e in
    let z = clean past in
    let form : HasForm k g.events = record {
      down = subst (λ (l : List SentPdu). Form Nb k
          (named Nb l ++ filter (is_built Nb) g.events)) z.down
          (built_sound Nb k g.events c.down p.down);
      up = subst (λ (l : List SentPdu). Form Ue k
          (named Ue l ++ filter (is_built Ue) g.events)) z.up
          (built_sound Ue k g.events c.up p.up);
      shown_is = shown_sound k g.events c.showing p.shown
          ∙ ap (λ (l : List Record). l ++ Stood k g.events) z.shown;
    } in
    let before : is_right c ≡ true = and_from (c.down.right && c.up.right) c.showing.right
    (and_from c.down.right c.up.right (was_built Nb k g.events c.down p.down) (was_built Ue k g.events c.up p.up))
    (was_shown k g.events c.showing p.shown) in
    (form, sound past before)

complete : (past : List Group) → FormIsRight past → is_right (all_checked past) ≡ true
complete [] h = refl
complete (g ∷ past) h =
    let c = all_checked past in
    let k = kinds (g ∷ past) in
    let z = clean past in
    let e = complete past h.1 in
    let p = and_parts (c.down.right && c.up.right) c.showing.right e in
    let q = and_parts c.down.right c.up.right p.0 in
    whole past g (record {
      down = built_complete Nb k g.events c.down q.0
          (subst (λ (l : List SentPdu). Form Nb k (named Nb l ++ filter (is_built Nb) g.events)) (sym z.down) h.0.down);
      up = built_complete Ue k g.events c.up q.1
          (subst (λ (l : List SentPdu). Form Ue k (named Ue l ++ filter (is_built Ue) g.events)) (sym z.up) h.0.up);
      shown = shown_complete k g.events c.showing p.1 (subst AllShown (sym z.shown) tt)
          (h.0.shown_is ∙ ap (λ (l : List Record). l ++ Stood k g.events) (sym z.shown));
    })

pub exact : (past : List Group) → IsTrue (is_right (all_checked past)) ↔ FormIsRight past
exact past = (sound past, complete past)
