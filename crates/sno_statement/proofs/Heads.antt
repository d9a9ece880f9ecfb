-- The first token of a tree.
use Rattle.std.{proofs.Common.{◌≡◌, List, [], ◌∷◌, refl, sym, ap, ◌∙◌, subst}, specs.Prelude.{Bool, true, false, not, is_some, Option, Some, MatchOption}, specs.Option.{option_map_or}}
use Rattle.sno_lexer.{specs.declared.token.Mark.{Mark}, specs.declared.token.Mark.TheVariants.{Dollar}, specs.declared.token.Part.TheVariants.{Colon}, specs.declared.token.Token.{Token}}
use Rattle.sno_lexer.specs.declared.token.TokenKind.{TokenKind}
use Rattle.sno_lexer.specs.declared.token.TokenKind.TheVariants as token
use Rattle.sno_expression.{specs.declared.tree.UnaryOperator.TheVariants.{Indirect}, specs.Marks.{unary_of}, specs.Expressions.{Expression}, specs.Lacking.{lacking}, specs.Spelling.{spaced, SpellsTo}}
use Rattle.sno_expression.{specs.inner.Telling.{begins}, specs.inner.Reading.{StopsAt, Stops}, proofs.Feeding.{headed}}
use Rattle.sno_statement.{specs.inner.Parsing.{is_colon}, specs.Spelling.{LeadsTo}, specs.Statements.{Goto, Object, NoObject, may_be_set}}

-- what begins an operand is no colon
pub no_colon : (a : Bool) (k : TokenKind) → begins a k ≡ true → is_colon k ≡ false
no_colon a (token.Part p) e = cc
no_colon a _ e = refl

-- the tree is spelled with the blank that stands before its first token
pub blank_spells : (t : Expression) (b c : Bool) (u : Token) (ts rest : List Token) → SpellsTo b t (u ∷ ts) rest → u.blank_before ≡ c → SpellsTo c t (u ∷ ts) rest
blank_spells t b c u ts rest s e =
    let h = headed t b (u ∷ ts) rest s in
    let i : u ≡ h.head = cc (h.is) in
    subst (λ (d : Bool). SpellsTo d t (u ∷ ts) rest) (sym (ap (λ (x : Token). x.blank_before) i ∙ h.blank) ∙ e) s

stops_behind : (k : TokenKind) → StopsAt true true k
stops_behind (token.Part p) = tt
stops_behind token.Open = refl
stops_behind token.OpenAngle = refl
stops_behind _ = refl

pub stops_blank : (t : Expression) (ts rest : List Token) → SpellsTo true t ts rest → Stops true ts
stops_blank t ts rest s =
    let h = headed t true ts rest s in
    subst (Stops true) (sym h.is) (subst (λ (b : Bool). StopsAt true b h.head.kind) (sym h.blank) (stops_behind h.head.kind))

pub dollar : (k : Mark) → unary_of k ≡ Some Indirect → k ≡ Dollar
dollar Dollar e = refl
dollar _ e = cc

-- PARTS OF THE DEFINITIONS BY NAMES OF THEIR OWN

abbrev pub lacking_pattern : Option Expression → List Bool
lacking_pattern p = option_map_or (lacking false) p []

-- a blank stands before a pattern
abbrev pub PatternTo : Option Expression → List Token → List Token → Type 0
PatternTo p ts rest = MatchOption p (ts ≡ rest) (λ t. SpellsTo true t ts rest)

abbrev pub ColonTo : Goto → List Token → Type 0
ColonTo g ts = (m : List Token) × (c : Bool) × (ts ≡ spaced true c (token.Part Colon) ∷ m) × LeadsTo g m

-- should the subject be a variable and is none: an object is given, and the subject may not be assigned to
abbrev pub is_wrong : Expression → Option Expression → Object → Bool
is_wrong s p NoObject = false
is_wrong s p _ = not (may_be_set s (is_some p))
