use Rattle.forms.proofs.Fronts.{shown-text}
use Rattle.forms.proofs.print.put_text.Goals as goal

pub returns : goal.returns
returns c = shown-text c.args.t c.write_name.new.out c.requires.1 c.write_name.ensures (rw c.from-end.ensures at c.put_tagged.ensures)
