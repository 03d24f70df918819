-- The matches of the program's command are complete.
use Rattle.std.proofs.Common.{◌≡◌, ℕ, zero, suc, ◌<◌, ◌≤◌, Bool, true, false, not, ◌&&◌, ◌||◌, List, [], ◌∷◌, length}
use Rattle.std.proofs.Common.{map, Option, Some, None, refl, sym, ap, ◌∙◌, inl, inr, subst, codes, arith}
use Rattle.std.specs.List.{slice_index_or, list_all}
use Rattle.std.specs.Option.{IfSome}
use Rattle.std.specs.Str.{bytes_eq}
use Rattle.std.proofs.lemmas.List.{get_or-map, get_or_default, length-map}
use Rattle.std.proofs.lemmas.List.Folds.{list_all_at}
use Rattle.std.proofs.lemmas.Slice.Eq.{bytes_eq-Decides}
use Rattle.clap.specs.Words.{Rule, Row, Text, App, app_of, rule_of, rows_of, found_of, one_of, one_text, items_of}
use Rattle.clap.specs.Walk.{is_empty, texts}
use Rattle.clap.specs.Simple.{has_plain_fields}
use Rattle.clap.specs.Facts.{args_of, groups_of, unwrap_or_range}
use Rattle.clap.specs.Built.{IsPlain, IsParsedFrom}
use Rattle.clap.specs.declared.builder.arg.Arg.{Arg}
use Rattle.clap.specs.declared.builder.command.Command.{Command}
use Rattle.clap.specs.declared.builder.command.Command.TheViews.{out-Command}
use Rattle.clap.specs.declared.builder.range.ValueRange.{ValueRange}
use Rattle.clap.specs.declared.builder.value_parser.ValueParser.{ValueParser}
use Rattle.clap.specs.declared.builder.value_parser.ValueParser.TheVariants as value
use Rattle.clap.specs.declared.parser.matches.Found.{Found}
use Rattle.clap.specs.declared.parser.matches.ArgMatches.{ArgMatches}
use Rattle.clap.proofs.WalkLemmas.{both, one_text-rows}
use Rattle.vbr_settings.specs.Options.{number_option, switch, options, command_line, HasNumber, number_among, IsSwitch}
use Rattle.vbr_settings.specs.Options.{AreComplete}
use Rattle.vbr_settings.specs.declared.config.TheConstants.{MAX_WORKERS}
use Rattle.vbr_settings.proofs.OptionValues.{its_number}
use Rattle.vbr_settings.proofs.OptionsRead.{none_in, StandsAlone, stands_alone, IsOption, TakesValue, text_of}
use Rattle.vbr_settings.proofs.OptionsRead.{switch_text}

-- ---- tests of a list of rules

-- what holds of all rules holds of each
passes_at : (test : Rule → Bool) (rules : List Rule) (k : ℕ) (r : Rule) → k < length rules →
    list_all test rules ≡ true → test (slice_index_or rules k r) ≡ true
passes_at test rules k r inside all = by_case (test (slice_index_or rules k r)) refl
  where
    by_case : (b : Bool) → test (slice_index_or rules k r) ≡ b → test (slice_index_or rules k r) ≡ true
    by_case true is = is
    by_case false is =
        let bad : false ≡ true = sym (list_all_at test rules k r inside is) ∙ all in
        cc

-- a rule of an option that stands alone, under a name of its own
is_sound : Rule → Bool
is_sound r = r.is_simple
    && (r.is_free
    && (not r.ignore_case
    && (not (is_empty r.id) && (not (bytes_eq r.id (codes "help")) && not (bytes_eq r.id (codes "version"))))))

-- the same, test by test
record PassesEach (r : Rule) : Type 0 where
  simple : r.is_simple ≡ true
  free : r.is_free ≡ true
  exact : not r.ignore_case ≡ true
  named : not (is_empty r.id) ≡ true
  not_shown : (not (bytes_eq r.id (codes "help")) && not (bytes_eq r.id (codes "version"))) ≡ true

each_of : (r : Rule) → is_sound r ≡ true → PassesEach r
unfolding is_sound
each_of r sound =
    let free = both _ _ sound in
    let exact = both _ _ free.1 in
    let named = both _ _ exact.1 in
    let help = both _ _ named.1 in
    record {
      simple = free.0;
      free = exact.0;
      exact = named.0;
      named = help.0;
      not_shown = help.1;
    }

-- no rule has the name of another
are_distinct : List Rule → Bool
are_distinct [] = true
are_distinct (r ∷ rules) =
    list_all (λ other. not (bytes_eq other.id r.id) && not (bytes_eq r.id other.id)) rules && are_distinct rules

distinct_at : (rules : List Rule) (j k : ℕ) (d e : Rule) → are_distinct rules ≡ true → j < length rules →
    k < length rules → bytes_eq (slice_index_or rules j d).id (slice_index_or rules k e).id ≡ true → j ≡ k
unfolding are_distinct
distinct_at [] j k d e distinct low high same = absurd (omega arith)
distinct_at (r ∷ rules) zero zero d e distinct low high same = refl
distinct_at (r ∷ rules) zero (suc k) d e distinct low high same =
    let apart = passes_at (λ other. not (bytes_eq other.id r.id) && not (bytes_eq r.id other.id)) rules k e
    (omega arith) (both _ _ distinct).0 in
    let off : not (bytes_eq r.id (slice_index_or rules k e).id) ≡ true =
    (both (not (bytes_eq (slice_index_or rules k e).id r.id)) (not (bytes_eq r.id (slice_index_or rules k e).id))
    apart).1 in
    let bad : false ≡ true = rw same at off in
    cc
distinct_at (r ∷ rules) (suc j) zero d e distinct low high same =
    let apart = passes_at (λ other. not (bytes_eq other.id r.id) && not (bytes_eq r.id other.id)) rules j d
    (omega arith) (both _ _ distinct).0 in
    let off : not (bytes_eq (slice_index_or rules j d).id r.id) ≡ true =
    (both (not (bytes_eq (slice_index_or rules j d).id r.id)) (not (bytes_eq r.id (slice_index_or rules j d).id))
    apart).0 in
    let bad : false ≡ true = rw same at off in
    cc
distinct_at (r ∷ rules) (suc j) (suc k) d e distinct low high same =
    ap suc (distinct_at rules j k d e (both _ _ distinct).1 (omega arith) (omega arith) same)

-- ---- a command that has the rules

-- a command with rules that stand alone, under names of their own
record HasRules (old : Command) (rules : List Rule) : Type 0 where
  are : map rule_of (args_of old) ≡ rules
  sound : list_all is_sound rules ≡ true
  distinct : are_distinct rules ≡ true
  groups : groups_of old ≡ []
  globals : (out-Command old).has_globals ≡ false

as_many : (old : Command) (rules : List Rule) → HasRules old rules → length (args_of old) ≡ length rules
as_many old rules has = sym (length-map (args_of old) rule_of) ∙ ap length has.are

rule_at : (old : Command) (rules : List Rule) (k : ℕ) (d : Arg) (r : Rule) → HasRules old rules → k < length rules →
    slice_index_or rules k r ≡ rule_of (slice_index_or (args_of old) k d)
rule_at old rules k d r has inside =
    let many = as_many old rules has in
    ap (λ (xs : List Rule). slice_index_or xs k r) (sym has.are) ∙ get_or-map rule_of (args_of old) k d r (omega arith)

sound_at : (old : Command) (rules : List Rule) (k : ℕ) (d : Arg) → HasRules old rules → k < length rules →
    is_sound (rule_of (slice_index_or (args_of old) k d)) ≡ true
sound_at old rules k d has inside =
    subst (λ (r : Rule). is_sound r ≡ true) (rule_at old rules k d (rule_of d) has inside)
    (passes_at is_sound rules k (rule_of d) inside has.sound)

alone_at : (old : Command) (rules : List Rule) (k : ℕ) (d : Arg) → HasRules old rules → k < length rules →
    StandsAlone (slice_index_or (args_of old) k d)
alone_at old rules k d has inside =
    let each = each_of (rule_of (slice_index_or (args_of old) k d)) (sound_at old rules k d has inside) in
    stands_alone (slice_index_or (args_of old) k d) each.simple each.free

plain_of : (old : Command) (rules : List Rule) → HasRules old rules → IsPlain old
plain_of old rules has =
    let many = as_many old rules has in
    ((λ k d inside. (alone_at old rules k d has (omega arith)).plain), has.groups)

false_of : (b : Bool) → not b ≡ true → b ≡ false
false_of true is = cc
false_of false is = refl

not_empty : (id : Text) → not (is_empty id) ≡ true → id ≡ [] → ⊥
not_empty [] some is = cc
not_empty (x ∷ id) some is = cc

not_same : (id other : Text) → not (bytes_eq id other) ≡ true → id ≡ other → ⊥
not_same id other apart is =
    let same : bytes_eq id other ≡ true = (bytes_eq-Decides id other).1 is in
    let bad : false ≡ true = rw same at apart in
    cc

option_at : (old : Command) (rules : List Rule) (k : ℕ) (d : Arg) (parser : ValueParser) → HasRules old rules →
    k < length rules → (slice_index_or rules k (rule_of d)).parser ≡ Some parser →
    IsOption old k (slice_index_or (args_of old) k d) parser
option_at old rules k d parser has inside reads =
    let many = as_many old rules has in
    let a : Arg = slice_index_or (args_of old) k d in
    let here = rule_at old rules k d (rule_of d) has inside in
    let each = each_of (rule_of a) (sound_at old rules k d has inside) in
    record {
      inside = omega (arith, many);
      here = get_or_default (args_of old) k a d (omega (arith, many));
      unique = λ j e low same.
          distinct_at rules j k (rule_of e) (rule_of d) has.distinct (omega (arith, many)) inside
          (rw (rule_at old rules j e (rule_of e) has (omega (arith, many)), here) same);
      named = not_empty a.id.now each.named;
      own = λ auto.
          elim auto [
            | inl is ↦ not_same a.id.now (codes "help") (both _ _ each.not_shown).0 is
            | inr is ↦ not_same a.id.now (codes "version") (both _ _ each.not_shown).1 is
          ];
      reads = sym (ap (λ (r : Rule). r.parser) here) ∙ reads;
      exact = false_of a.ignore_case each.exact;
    }

-- ---- the program's command

-- an option that takes a number has one, within its limits
record Numbered (least most : ℕ) (name : Text) (rows : List Row) : Type 0 where
  number : HasNumber name rows
  low : least ≤ number_among name rows
  high : number_among name rows ≤ most

takes_value : (a : Arg) (name : Text) (least most : ℕ) (default : Text) →
    rule_of a ≡ number_option name least most default → StandsAlone a → TakesValue a
takes_value a name least most default is alone =
    let range : a.num_vals ≡ None = ap (λ (r : Rule). r.range) is in
    let defaults : texts (items_of a.default_vals) ≡ default ∷ [] = ap (λ (r : Rule). r.defaults) is in
    let one : length (items_of a.default_vals) ≡ 1 =
    sym (length-map (items_of a.default_vals) (λ s. s.now)) ∙ ap length defaults in
    record {
      sets = ap (λ (r : Rule). r.action) is;
      least = subst (λ (range : Option ValueRange). 1 ≤ (unwrap_or_range range).start_inclusive) (sym range)
          (omega arith);
      delimiter = alone.delimiter;
      defaults = (alone.ifs, omega arith);
    }

numbered_at : (old : Command) (m : ArgMatches) (p : IsParsedFrom old m) (rules : List Rule) (k : ℕ) (d : Arg)
    (name : Text) (least most : ℕ) (default : Text) → HasRules old rules → k < length rules →
    slice_index_or rules k (rule_of d) ≡ number_option name least most default → most ≤ 18446744073709551615 →
    Numbered least most name (rows_of (found_of m))
numbered_at old m p rules k d name least most default has inside is small =
    let a : Arg = slice_index_or (args_of old) k d in
    let f : Found = found_of m in
    let here : rule_of a ≡ number_option name least most default =
    sym (rule_at old rules k d (rule_of d) has inside) ∙ is in
    let option : IsOption old k a (value.Unsigned least most) =
    option_at old rules k d (value.Unsigned least most) has inside (ap (λ (r : Rule). r.parser) is) in
    let alone : StandsAlone a = alone_at old rules k d has inside in
    let takes : TakesValue a = takes_value a name least most default here alone in
    let got = text_of old m p k a (value.Unsigned least most) option takes (plain_of old rules has) has.globals in
    let text : one_of name (rows_of f) ≡ Some got.0 =
    sym (one_text-rows f name)
    ∙ subst (λ (id : Text). one_text f id ≡ Some got.0) (ap (λ (r : Rule). r.id) here) got.1 in
    let number = its_number name (rows_of f) got.0 text in
    record {
      number = (got.0, text, (got.2.0, got.2.1, omega arith, omega (arith, got.2.3)));
      low = rw number got.2.2;
      high = rw number got.2.3;
    }

-- a switch has no text but yes or no
switch_at : (old : Command) (m : ArgMatches) (p : IsParsedFrom old m) (rules : List Rule) (k : ℕ) (d : Arg)
    (name : Text) → HasRules old rules → k < length rules → slice_index_or rules k (rule_of d) ≡ switch name →
    IsSwitch name (rows_of (found_of m))
switch_at old m p rules k d name has inside is =
    let a : Arg = slice_index_or (args_of old) k d in
    let f : Found = found_of m in
    let here : rule_of a ≡ switch name = sym (rule_at old rules k d (rule_of d) has inside) ∙ is in
    let option : IsOption old k a value.Bool =
    option_at old rules k d value.Bool has inside (ap (λ (r : Rule). r.parser) is) in
    let got = switch_text old m p k a option (plain_of old rules has) has.globals in
    subst (λ (o : Option Text).
    IfSome o (λ text. (bytes_eq text (codes "true") || bytes_eq text (codes "false")) ≡ true)) (one_text-rows f name)
    (subst (λ (id : Text).
    IfSome (one_text f id) (λ text. (bytes_eq text (codes "true") || bytes_eq text (codes "false")) ≡ true))
    (ap (λ (r : Rule). r.id) here) got)

has_options : (old : Command) → app_of old ≡ command_line → HasRules old options
unfolding command_line is_sound are_distinct
has_options old is =
    let plain : has_plain_fields (out-Command old) ≡ true = ap (λ (app : App). app.top.is_plain) is in
    let groups = both _ _ plain in
    let external = both _ _ groups.1 in
    let globals = both _ _ external.1 in
    record {
      are = ap (λ (app : App). app.top.rules) is;
      sound = refl;
      distinct = refl;
      groups = none_in (groups_of old) groups.0;
      globals = false_of (out-Command old).has_globals globals.0;
    }

-- the matches that the program's command makes of arguments
pub complete : (old : Command) (m : ArgMatches) → app_of old ≡ command_line → IsParsedFrom old m →
    AreComplete (rows_of (found_of m))
complete old m is p = by_case (args_of old) refl
  where
    has : HasRules old options
    has = has_options old is

    by_case : (args : List Arg) → args_of old ≡ args → AreComplete (rows_of (found_of m))
    by_case [] none =
        let nine : length (args_of old) ≡ 9 = as_many old options has in
        let zero : length (args_of old) ≡ 0 = ap length none in
        absurd (omega (arith, nine, zero))
    by_case (d ∷ rest) some =
        let workers =
        numbered_at old m p options 0 d (codes "workers") 1 MAX_WORKERS (codes "1") has (omega arith) refl
        (omega arith) in
        let slots = numbered_at old m p options 1 d (codes "slots") 0 4294967295 (codes "1024") has (omega arith) refl
        (omega arith) in
        let buckets =
        numbered_at old m p options 2 d (codes "buckets") 0 4294967295 (codes "16") has (omega arith) refl
        (omega arith) in
        let last_epoch =
        numbered_at old m p options 3 d (codes "last-epoch") 0 18446744073709551615 (codes "549755813887") has
        (omega arith) refl (omega arith) in
        let budget =
        numbered_at old m p options 4 d (codes "budget") 0 4294967295 (codes "100000") has (omega arith) refl
        (omega arith) in
        record {
          workers = workers.number;
          slots = slots.number;
          buckets = buckets.number;
          last_epoch = last_epoch.number;
          budget = budget.number;
          epoch = switch_at old m p options 5 d (codes "epoch") has (omega arith) refl;
          map = switch_at old m p options 6 d (codes "map") has (omega arith) refl;
          some_worker = workers.low;
          few_workers = workers.high;
          small_slots = slots.high;
          small_buckets = buckets.high;
          small_budget = budget.high;
        }
