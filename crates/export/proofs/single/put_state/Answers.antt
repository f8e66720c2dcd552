-- `export::single::put_state` meets its contract: the bytes that are put are those of the state. Assumes nothing.
use mathlib.Core.Path.{ap₂}
use Rattle.std.proofs.Common.{ap, ◌∙◌, List, ℕ}
use Rattle.std.proofs.lemmas.List.Edits.{sets}
use Rattle.state.specs.Fields.{fields}
use Rattle.tail.specs.Tail.{release_of}
use Rattle.form.specs.Form.{tail_bytes}
use Rattle.layout.specs.Numbers.{tail_from}
use Rattle.layout.proofs.Source.{tail_from_lem}
use Rattle.export.specs.Types.{Release, Form, Tail}
use Rattle.export.proofs.single.put_state.Goals as goal

pub returns : goal.returns
returns c =
    let release = c.release-release.result in
    c.put_tail.ensures.leaves
    ∙ ap (sets c.args.bytes.now 0)
    (ap₂ (λ (f : Form) (x : Tail). tail_bytes f x) c.form_of.ensures
    (ap (λ (l : List ℕ). tail_from l release.store) c.fields_of-numbers.ensures
    ∙ ap (λ (x : Release). tail_from (fields x) x.store) c.release-release.ensures
    ∙ tail_from_lem (release_of c.args.state) c.requires.1
    ∙ c.requires.2))
