use Rattle.typed_operators.proofs.Compared.{truth_case_made}
use Rattle.typed_operators.proofs.comparing.with_truth.Goals as goal

pub returns : goal.returns
returns c =
    truth_case_made c.args.ground.now.types c.args.case c.into_parts-tag_to.result.0 c.into_parts-tag_to.result.1 c.into_parts-tag_to.result.2 c.in_ok-value.value
    c.into_parts-tag_to.ensures.at c.into_parts-tag_to.ensures.tag_to c.into_parts-tag_to.ensures.value c.in_ok-value.ensures
