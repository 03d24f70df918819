use Rattle.std.proofs.Common.{◌≡◌, List, rules, ap, ◌∙◌, subst, sym}
use Rattle.std.specs.Int.{w64}
use Rattle.std.proofs.lemmas.Int.{to_z-of_z}
use Rattle.vbr_slots.specs.views.Views.{IsOf, PassView}
use Rattle.vbr_set.specs.members.Balances.{balance_of}
use Rattle.vbr_at_table.specs.hands.Aside.{HasAside}
use Rattle.vbr_set.specs.calls.Members.{as_member}
use Rattle.vbr_set.specs.members.Sharing.{AreOthers, ArePassesOf}
use Rattle.vbr_set.proofs.members.Ends.{all_of, out_again, with_own}
use Rattle.vbr_set.proofs.member.closing.end_gathered.Goals as goal

pub tell-told-requires-clause-of_set : goal.tell-told-requires-clause-of_set
tell-told-requires-clause-of_set g c =
    all_of c.args.set c.insert.new.self.items
    (with_own c.args.set c.args.passes.items c.insert.new.self.items c.who-who.result c.args.pass (search rules)
    c.requires.passes c.requires.ready.own)

pub of-last-requires : goal.of-last-requires
of-last-requires g c =
    let pass : c.remove-pass.result ≡ c.args.pass = search rules in
    let passes : c.remove-pass.new.self.items ≡ c.args.passes.items = search (rules, out_again) in
    record {
      part = record {
        own = subst (λ (p : PassView). IsOf p.trace c.args.set) (sym pass) c.requires.ready.own;
        empty_hand = ap (λ (p : PassView). p.hand) pass ∙ c.requires.ready.empty_hand;
        comes_back =
            subst (λ (ps : List PassView). ArePassesOf c.args.set ps × AreOthers c.args.set ps) (sym passes)
            (c.requires.passes, c.requires.others);
      };
      counted = to_z-of_z w64 c.args.balance (search rules) ∙ c.requires.kept.0
          ∙ sym (ap (λ (p : PassView). balance_of (as_member c.args.set p)) pass);
      put_aside = subst (λ (p : PassView). HasAside p c.args.aside) (sym pass) c.requires.kept.1;
    }

pub returns-in-Ok-clause-same : goal.returns-in-Ok-clause-same
returns-in-Ok-clause-same g c =
    let pass : c.remove-pass.result ≡ c.args.pass = search rules in
    c.of-last.ensures ∙ ap (λ (p : PassView). record { set = c.args.set; pass = p; aside = c.args.aside }) pass

pub returns-in-Ok-clause-ended : goal.returns-in-Ok-clause-ended
returns-in-Ok-clause-ended g c = record {
  passes = c.insert.new.self.items;
  all = record {
    of_set = with_own c.args.set c.args.passes.items c.insert.new.self.items c.who-who.result c.args.pass (search rules)
        c.requires.passes c.requires.ready.own;
    count = search rules;
    numbered = search rules;
  };
  own = search rules;
  closes = search rules;
}
