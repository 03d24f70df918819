-- What the matches of a command hold of its options, where it has plain options with defaults, and flags.
use Rattle.std.proofs.Common.{◌≡◌, ℕ, zero, suc, ◌<◌, ◌≤◌, inl, inr, Bool, true, false, not, List, [], ◌∷◌, length}
use Rattle.std.proofs.Common.{is_some, Option, Some, None, refl, sym, ap, ◌∙◌, subst, arith}
use Rattle.std.specs.List.{All, slice_index_or}
use Rattle.std.specs.Str.{bytes_eq}
use Rattle.std.specs.Prelude.{find, option_map, slice_get, IfSome}
use Rattle.std.specs.Borrow.{Bor}
use Rattle.std.proofs.lemmas.Bool.Decides.{nat_tests}
use Rattle.std.proofs.lemmas.List.Elements.{All-get_or, All-weaker}
use Rattle.std.proofs.lemmas.Slice.Eq.{bytes_eq-Decides}
use Rattle.clap.specs.Words.{Text, one_text, found_of, matched_of, read_as, reading_of, Accepts}
use Rattle.clap.specs.Walk.{is_empty, is_simple_arg, is_free_arg}
use Rattle.clap.specs.Facts.{args_of, groups_of, Entry, EntryPasses, PassesArg, HasIn, HasId, WantsDefault}
use Rattle.clap.specs.Facts.{least_values, parser_of, parser_of_value}
use Rattle.clap.specs.Built.{IsPlain, IsPlainArg, IsParsedFrom, IsAuto, SameRules}
use Rattle.clap.specs.declared.builder.action.ArgAction.TheVariants.{Set, Count}
use Rattle.clap.specs.declared.builder.arg.Arg.{Arg}
use Rattle.clap.specs.declared.builder.value_parser.Reading.{Reading}
use Rattle.clap.specs.declared.builder.value_parser.Reading.TheVariants as reading
use Rattle.clap.specs.declared.builder.value_parser.ValueParser.TheVariants as value
use Rattle.clap.specs.declared.builder.command.Command.{Command}
use Rattle.clap.specs.declared.builder.command.Command.TheViews.{out-Command}
use Rattle.clap.specs.declared.builder.value_parser.ValueParser.{ValueParser}
use Rattle.clap.specs.declared.parser.matches.ArgMatches.{ArgMatches}
use Rattle.clap.specs.declared.parser.matches.MatchedArg.{MatchedArg}
use Rattle.clap.proofs.CallerLemmas.{default_present, entry_by_id, same_rules_by_id}
use Rattle.clap.proofs.WalkLemmas.{both}

-- ---- what the rules of a command say of its arguments

pub none_in : {X : Type 0} (xs : List X) → is_empty xs ≡ true → xs ≡ []
none_in [] is = refl
none_in (x ∷ xs) is =
    let bad : length (x ∷ xs) ≡ 0 = grind (arith, nat_tests) in
    absurd (omega arith)

is_none : {X : Type 0} (o : Option X) → not (is_some o) ≡ true → o ≡ None
is_none None is = refl
is_none (Some x) is = cc

-- an argument that excludes nothing, and whose values are read as they stand
pub record StandsAlone (a : Arg) : Type 0 where
  pub plain : IsPlainArg a
  pub ifs : a.default_vals_ifs.items ≡ []
  pub delimiter : a.val_delim ≡ None

pub stands_alone : (a : Arg) → is_simple_arg a ≡ true → is_free_arg a ≡ true → StandsAlone a
stands_alone a simple free =
    let overrides = both _ _ simple in
    let ifs = both _ _ overrides.1 in
    let groups = both _ _ ifs.1 in
    let delimiter = both _ _ groups.1 in
    let exclusive = both _ _ free in
    let conflicts = both _ _ exclusive.1 in
    record {
      plain = (
        is_not a.exclusive exclusive.0,
        none_in a.conflicts.items conflicts.0,
        none_in a.overrides.items overrides.0,
        none_in a.groups.items groups.0,
      );
      ifs = none_in a.default_vals_ifs.items ifs.0;
      delimiter = is_none a.val_delim delimiter.0;
    }
  where
    is_not : (b : Bool) → not b ≡ true → b ≡ false
    is_not true is = cc
    is_not false is = refl

-- ---- the entry of an option

-- an option among the arguments of a command: no other has its name, and building adds none of that name
pub record IsOption (old : Command) (k : ℕ) (a : Arg) (parser : ValueParser) : Type 0 where
  pub inside : k < length (args_of old)
  pub here : slice_index_or (args_of old) k a ≡ a
  pub unique : (j : ℕ) (e : Arg) → j < length (args_of old) →
      bytes_eq (slice_index_or (args_of old) j e).id.now a.id.now ≡ true → j ≡ k
  pub named : a.id.now ≡ [] → ⊥
  pub own : IsAuto a → ⊥
  pub reads : a.value_parser ≡ Some parser
  pub exact : a.ignore_case ≡ false

-- the one argument of the built command with the name of an option
rules_of : (old : Command) (m : ArgMatches) (p : IsParsedFrom old m) (k : ℕ) (a : Arg) (parser : ValueParser) →
    IsOption old k a parser → (j : ℕ) (y : Arg) → j < length (args_of p.built) →
    slice_index_or (args_of p.built) j y ≡ y → bytes_eq y.id.now a.id.now ≡ true → SameRules a y
rules_of old m p k a parser option j y inside at_index same =
    let unique : (i : ℕ) (e : Arg) → i < length (args_of old) →
    bytes_eq (slice_index_or (args_of old) i e).id.now (slice_index_or (args_of old) k a).id.now ≡ true → i ≡ k =
    λ i e low is.
    option.unique i e low
    (subst (λ (b : Arg). bytes_eq (slice_index_or (args_of old) i e).id.now b.id.now ≡ true) option.here is) in
    let own : IsAuto (slice_index_or (args_of old) k a) → ⊥ = λ auto. option.own (subst IsAuto option.here auto) in
    let is : bytes_eq y.id.now (slice_index_or (args_of old) k a).id.now ≡ true =
    subst (λ (b : Arg). bytes_eq y.id.now b.id.now ≡ true) (sym option.here) same in
    subst (λ (b : Arg). SameRules b y) option.here
    (same_rules_by_id old m p k a option.inside unique own j y inside at_index is)

-- what the entry of an option holds: values that its parser accepts, read as the parser says
record HoldsValue (option : ValueParser) (x : MatchedArg) : Type 0 where
  accepts : All (λ v. Accepts false option v.now) x.vals.items
  reading : x.reading ≡ reading_of option

accepted : (a y : Arg) (parser : ValueParser) (text : List ℕ) → SameRules a y → a.value_parser ≡ Some parser →
    a.ignore_case ≡ false → Accepts y.ignore_case (parser_of y) text → Accepts false parser text
accepted a y parser text rules reads exact is =
    let same : parser_of y ≡ parser = ap parser_of_value (rules.parser parser reads) in
    subst (λ (b : Bool). Accepts b parser text) (rules.ignore_case ∙ exact)
    (subst (λ (q : ValueParser). Accepts y.ignore_case q text) same is)

held : (old : Command) (m : ArgMatches) (p : IsParsedFrom old m) (k : ℕ) (a : Arg) (parser : ValueParser) (e : Entry)
    (x : MatchedArg) → IsOption old k a parser → groups_of p.built ≡ [] → EntryPasses p.built e → e.1 ≡ x →
    e.0.now ≡ a.id.now → HoldsValue parser x
held old m p k a parser e x option no_groups passes same name =
    let no_group : e.1.is_group ≡ true → ⊥ = λ group. elim (passes.3 group) [
      | inl empty ↦ option.named (sym name ∙ empty)
      | inr lots ↦
          let bad : 0 < 0 = rw no_groups at lots in
          absurd (omega arith)
    ] in
    record {
      accepts = elim passes.0 [
        | inl group ↦ absurd (no_group group)
        | inr values ↦
            All-weaker (λ v. PassesArg p.built e.0.now v.now) (λ v. Accepts false parser v.now)
            (λ v pass. accepted a pass.1 parser v.now
            (rules_of old m p k a parser option pass.0 pass.1 pass.2 pass.3 (rw name at pass.4.0)) option.reads
            option.exact pass.4.1) x.vals.items
            (subst (λ (y : MatchedArg). All (λ v. PassesArg p.built e.0.now v.now) y.vals.items) same values)
      ];
      reading = elim passes.4 [
        | inl group ↦ absurd (no_group group)
        | inr has ↦
            let rules = rules_of old m p k a parser option has.0 has.1 has.2 has.3 (rw name at has.4.0) in
            let read : parser_of has.1 ≡ parser = ap parser_of_value (rules.parser parser option.reads) in
            ap (λ (y : MatchedArg). y.reading) (sym same) ∙ sym has.4.1 ∙ ap reading_of read
      ];
    }

-- ---- the text of an option

-- an option that takes a value, and has one where none is given
pub record TakesValue (a : Arg) : Type 0 where
  pub sets : a.action ≡ Some Set
  pub least : 1 ≤ least_values a
  pub delimiter : a.val_delim ≡ None
  pub defaults : WantsDefault a

has_value : (old : Command) (m : ArgMatches) (p : IsParsedFrom old m) (k : ℕ) (a : Arg) (parser : ValueParser)
    (e : Entry) (x : MatchedArg) → IsOption old k a parser → TakesValue a → groups_of p.built ≡ [] →
    EntryPasses p.built e → e.1 ≡ x → e.0.now ≡ a.id.now → 0 < length x.vals.items
has_value old m p k a parser e x option takes no_groups passes same name = elim passes.1 [
  | inl group ↦ elim group.1 [
    | inl empty ↦ absurd (option.named (sym name ∙ empty))
    | inr lots ↦
        let bad : 0 < 0 = rw no_groups at lots in
        absurd (omega arith)
  ]
  | inr (inl values) ↦ subst (λ (y : MatchedArg). 0 < length y.vals.items) same values
  | inr (inr (inl counts)) ↦
      let any = counts.1 in
      let rules = rules_of old m p k a parser option any.0 any.1 any.2 any.3 (rw name at any.4.0) in
      let is_set : any.1.action ≡ Some Set = rules.action Set takes.sets in
      let bad : Set ≡ Count = rw is_set at any.4.1 in
      cc
  | inr (inr (inr none)) ↦
      let rules = rules_of old m p k a parser option none.0 none.1 none.2 none.3 (rw name at none.4.0) in
      elim none.4.1 [
        | inl few ↦
            let one = rules.least takes.sets takes.least in
            absurd (omega arith)
        | inr splits ↦
            let bad : false ≡ true = rw (rules.val_delim, takes.delimiter) at splits in
            cc
      ]
]

-- an id that an entry has is found
found_in : (xs : List Entry) (id : List ℕ) → HasIn xs id →
    is_some (option_map (λ e. e.1) (find (λ e. bytes_eq e.0.now id) xs)) ≡ true
found_in [] id has = absurd (omega (arith, has.1))
found_in (x ∷ xs) id has = by_case (bytes_eq x.0.now id) refl (found_in xs id)
  where
    rest : (i : ℕ) → i < length (x ∷ xs) → ((d : Entry) → bytes_eq (slice_index_or (x ∷ xs) i d).0.now id ≡ true) →
        bytes_eq x.0.now id ≡ false → HasIn xs id
    rest zero inside is other =
        let bad : false ≡ true = sym other ∙ is x in
        cc
    rest (suc i) inside is other = (i, omega arith, is)

    by_case : (b : Bool) → bytes_eq x.0.now id ≡ b →
        (HasIn xs id → is_some (option_map (λ e. e.1) (find (λ e. bytes_eq e.0.now id) xs)) ≡ true) →
        is_some (option_map (λ e. e.1) (find (λ e. bytes_eq e.0.now id) (x ∷ xs))) ≡ true
    by_case true is behind = rw is refl
    by_case false is behind = rw is (behind (rest has.0 has.1 has.2 is))

head_of : (parser : ValueParser) (how : Reading) (values : List (Bor (List ℕ))) →
    All (λ v. Accepts false parser v.now) values → 0 < length values →
    (text : Text) × (option_map (λ s. read_as how s.now) (slice_get values 0) ≡ Some (read_as how text)) ×
    Accepts false parser text
head_of parser how [] accepts some = absurd (omega arith)
head_of parser how (v ∷ values) accepts some =
    (v.now, refl, All-get_or (λ v. Accepts false parser v.now) (v ∷ values) 0 v (omega arith) accepts)

-- an option that takes a value has a text that its parser accepts
pub text_of : (old : Command) (m : ArgMatches) (p : IsParsedFrom old m) (k : ℕ) (a : Arg) (parser : ValueParser) →
    IsOption old k a parser → TakesValue a → IsPlain old → (out-Command old).has_globals ≡ false →
    (text : Text) × (one_text (found_of m) a.id.now ≡ Some (read_as (reading_of parser) text)) ×
    Accepts false parser text
text_of old m p k a parser option takes plain globals = by_case (matched_of (found_of m) a.id.now) refl
  where
    has : HasId (found_of m) a.id.now
    has = subst (λ (b : Arg). HasId (found_of m) b.id.now) option.here
        (default_present old m p globals k a option.inside (subst WantsDefault (sym option.here) takes.defaults))

    by_case : (entry : Option MatchedArg) → matched_of (found_of m) a.id.now ≡ entry →
        (text : Text) × (one_text (found_of m) a.id.now ≡ Some (read_as (reading_of parser) text)) ×
        Accepts false parser text
    by_case None is =
        let bad : is_some (matched_of (found_of m) a.id.now) ≡ true =
        found_in (found_of m).entries.items a.id.now has in
        let no : is_some (matched_of (found_of m) a.id.now) ≡ false = rw is refl in
        cc
    by_case (Some x) is =
        let parsed = p.parsed (p.from.globals ∙ globals) in
        let entry = entry_by_id (EntryPasses p.built) (found_of m).entries.items a.id.now x parsed.values is in
        let name : entry.0.0.now ≡ a.id.now = (bytes_eq-Decides entry.0.0.now a.id.now).0 entry.2 in
        let no_groups = (p.from.plain plain).1 in
        let holds = held old m p k a parser entry.0 x option no_groups entry.3 entry.1 name in
        let some = has_value old m p k a parser entry.0 x option takes no_groups entry.3 entry.1 name in
        let first = head_of parser (reading_of parser) x.vals.items holds.accepts some in
        let read : one_text (found_of m) a.id.now
        ≡ option_map (λ s. read_as (reading_of parser) s.now) (slice_get x.vals.items 0) =
        rw (is, holds.reading) refl in
        (first.0, read ∙ first.1, first.2)

-- a switch that has a text has one that its parser accepts
pub switch_text : (old : Command) (m : ArgMatches) (p : IsParsedFrom old m) (k : ℕ) (a : Arg) →
    IsOption old k a value.Bool → IsPlain old → (out-Command old).has_globals ≡ false →
    IfSome (one_text (found_of m) a.id.now) (λ text. Accepts false value.Bool text)
switch_text old m p k a option plain globals = by_case (matched_of (found_of m) a.id.now) refl
  where
    first : (how : Reading) (values : List (Bor (List ℕ))) → how ≡ reading.AsWritten →
        All (λ v. Accepts false value.Bool v.now) values →
        IfSome (option_map (λ s. read_as how s.now) (slice_get values 0)) (λ text. Accepts false value.Bool text)
    first how [] written accepts = tt
    first how (v ∷ values) written accepts =
        rw written (All-get_or (λ v. Accepts false value.Bool v.now) (v ∷ values) 0 v (omega arith) accepts)

    by_case : (entry : Option MatchedArg) → matched_of (found_of m) a.id.now ≡ entry →
        IfSome (one_text (found_of m) a.id.now) (λ text. Accepts false value.Bool text)
    by_case None is = rw is tt
    by_case (Some x) is =
        let parsed = p.parsed (p.from.globals ∙ globals) in
        let entry = entry_by_id (EntryPasses p.built) (found_of m).entries.items a.id.now x parsed.values is in
        let name : entry.0.0.now ≡ a.id.now = (bytes_eq-Decides entry.0.0.now a.id.now).0 entry.2 in
        let holds = held old m p k a value.Bool entry.0 x option (p.from.plain plain).1 entry.3 entry.1 name in
        rw is (first x.reading x.vals.items holds.reading holds.accepts)
