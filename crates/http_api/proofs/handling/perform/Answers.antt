use Rattle.std.proofs.Common.{◌∙◌, inl, subst, sym}
use Rattle.http_api.proofs.PartLemmas.{report_step}
use Rattle.http_api.specs.Handling.{IsExplanationTold}
use Rattle.http_api.specs.Responses.{HttpResponse}
use Rattle.http_api.proofs.handling.perform.Goals as goal

pub returns-in-Report : goal.returns-in-Report
returns-in-Report g c = rw c.in-Report.is (report_step _ c.args.now _)

pub returns-in-Explain : goal.returns-in-Explain
returns-in-Explain g c =
    let explained = c.explain.ensures in
    rw c.in-Explain.is (λ answer told. inl (explained.0, explained.1, subst (λ (a : HttpResponse). IsExplanationTold explained.0 a) (sym told) explained.2))

pub returns-in-Fetch : goal.returns-in-Fetch
returns-in-Fetch g c = let fetched = c.fetch.ensures in rw c.in-Fetch.is (λ answer told. inl (fetched.0, fetched.1, told ∙ fetched.2))
