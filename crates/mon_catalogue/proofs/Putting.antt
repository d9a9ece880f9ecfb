-- The parts of a catalogue's text, put to a sink one behind the other.
use Rattle.std.proofs.Common.{◌≡◌, ◌∙◌, ap, sym, ℕ, List, [], ◌∷◌, ◌++◌, length, append_assoc}
use Rattle.std.specs.Prelude.{codes, decimal}
use Rattle.mon_device.{specs.Putting.{Standing, Puts}, proofs.Putting.{puts_same, puts_then}}
use Rattle.acl_text.specs.Printing.{short_form}
use Rattle.mon_catalogue.specs.{declared.data_set.DataSet.{DataSet}, Modes.{mode_word}, Sets.{Sets}, Text.{set_line, set_lines, text_of, catalogue_text}}
use Rattle.mon_catalogue.proofs.Texts.{catalogue_text_cons}

-- a blank and a word behind what was put
word_put : (a b c : Standing) (line word is : List ℕ) → word ≡ is → Puts a b line → Puts b c (codes " " ++ word) → Puts a c (line ++ codes " " ++ is)
word_put a b c line word is same so_far more =
    puts_same a c (line ++ (codes " " ++ word)) (line ++ codes " " ++ is)
    (ap (λ (w : List ℕ). line ++ (codes " " ++ w)) same ∙ sym (append_assoc line (codes " ") is))
    (puts_then a b c line (codes " " ++ word) so_far more)

-- what the code has at hand of a `$SET` line
pub record Said (name : List ℕ) (set : DataSet) (first owner group mode : List ℕ) (count : ℕ) : Type 0 where
  pub name_is : first ≡ name
  pub owner_is : owner ≡ set.owner
  pub group_is : group ≡ set.group
  pub mode_is : mode ≡ mode_word set.mode
  pub count_is : count ≡ length set.records

pub head_put : (a b c d e f g h : Standing) (name : List ℕ) (set : DataSet) (first owner group mode : List ℕ) (count : ℕ) → Said name set first owner group mode count
    → Puts a b (codes "$SET ") → Puts b c first → Puts c d (codes " " ++ owner) → Puts d e (codes " " ++ group) → Puts e f (codes " " ++ mode)
    → Puts f g (codes " " ++ decimal count) → Puts g h (10 ∷ []) → Puts a h (set_line name set ++ 10 ∷ [])
head_put a b c d e f g h name set first owner group mode count said one two three four five six seven =
    let named = puts_then a b c (codes "$SET ") name one (puts_same b c first name said.name_is two) in
    let owned = word_put a c d _ owner set.owner said.owner_is named three in
    let grouped = word_put a d e _ group set.group said.group_is owned four in
    let moded = word_put a e f _ mode (mode_word set.mode) said.mode_is grouped five in
    let counted = word_put a f g _ (decimal count) (decimal (length set.records)) (ap decimal said.count_is) moded six in
    puts_then a g h (set_line name set) (10 ∷ []) counted seven

pub set_put : (a b c d e : Standing) (name : List ℕ) (set : DataSet) → Puts a b (set_line name set ++ 10 ∷ []) → Puts b c (short_form set.acl) → Puts c d (10 ∷ [])
    → Puts d e (text_of set.records) → Puts a e (text_of (set_lines (name, set)))
set_put a b c d e name set one two three four =
    puts_then a b e (set_line name set ++ 10 ∷ []) ((short_form set.acl ++ 10 ∷ []) ++ text_of set.records) one
    (puts_then b d e (short_form set.acl ++ 10 ∷ []) (text_of set.records) (puts_then b c d (short_form set.acl) (10 ∷ []) two three) four)

-- one set, and then the others
pub sets_put : (a b c : Standing) (set : List ℕ × DataSet) (sets : Sets) → Puts a b (text_of (set_lines set)) → Puts b c (catalogue_text sets) → Puts a c (catalogue_text (set ∷ sets))
sets_put a b c set sets one others =
    puts_same a c (text_of (set_lines set) ++ catalogue_text sets) (catalogue_text (set ∷ sets)) (sym (catalogue_text_cons set sets))
    (puts_then a b c (text_of (set_lines set)) (catalogue_text sets) one others)
