use Rattle.vbr_handles.proofs.Names.{rules, sym, subst, eqb-true, ltb-false, ltb-true, members_by, Lack, eqb-false}
use Rattle.vbr_handles.proofs.Names.{not-false, not-true}
use Rattle.vbr_handles.proofs.AskingAll.{counted, enough, few_lack, just_all, lacks_few, not_all, too_few}
use Rattle.vbr_handles.proofs.asking_all.lack.Goals as goal

pub returns-in-Report-clause-yes : goal.returns-in-Report-clause-yes
returns-in-Report-clause-yes g c e =
    let all = counted g.H.HandleOf.member c.passes-passes.result c.args.handles.now c.index-handles-0.result
    (search rules) c.requires c.passes-passes.ensures.0 in
    lacks_few c.args.question.now (members_by g.H.HandleOf.member c.args.handles.now) c.in-Report.is
    (too_few _ _ _ all (ltb-true _ _ e))

pub returns-in-Report-clause-no : goal.returns-in-Report-clause-no
returns-in-Report-clause-no g c e few =
    let all = counted g.H.HandleOf.member c.passes-passes.result c.args.handles.now c.index-handles-0.result
    (search rules) c.requires c.passes-passes.ensures.0 in
    enough _ _ _ all (ltb-false _ _ e)
    (few_lack c.args.question.now (members_by g.H.HandleOf.member c.args.handles.now) c.in-Report.is few)

pub returns-in-Renew-clause-yes : goal.returns-in-Renew-clause-yes
returns-in-Renew-clause-yes g c e =
    let all = counted g.H.HandleOf.member c.passes-passes.result c.args.handles.now c.index-handles-0.result
    (search rules) c.requires c.passes-passes.ensures.0 in
    subst (λ asked. Lack asked (members_by g.H.HandleOf.member c.args.handles.now)) (sym c.in-Renew.is)
    (not_all _ _ _ all (eqb-false _ _ (not-true _ e)))

pub returns-in-Renew-clause-no : goal.returns-in-Renew-clause-no
returns-in-Renew-clause-no g c e not =
    let all = counted g.H.HandleOf.member c.passes-passes.result c.args.handles.now c.index-handles-0.result
    (search rules) c.requires c.passes-passes.ensures.0 in
    just_all _ _ _ all (eqb-true _ _ (not-false _ e))
    (subst (λ asked. Lack asked (members_by g.H.HandleOf.member c.args.handles.now)) c.in-Renew.is not)
