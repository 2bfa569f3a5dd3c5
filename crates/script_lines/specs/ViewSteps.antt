-- For the proofs: what the enums of forms hold.
use Rattle.script_lines.specs.Forms as form
use Rattle.script_lines.specs.Views.{text_of}
use Rattle.script_lines.specs.declared.forms.rule.RuleForm.{RuleForm}
use Rattle.script_lines.specs.declared.forms.rule.RuleForm.TheVariants as rules
use Rattle.script_lines.specs.declared.forms.header.HeaderForm.{HeaderForm}
use Rattle.script_lines.specs.declared.forms.header.HeaderForm.TheVariants as headers
use Rattle.script_lines.specs.declared.forms.event.EventForm.{EventForm}
use Rattle.script_lines.specs.declared.forms.event.EventForm.TheVariants as events
use Rattle.script_lines.specs.declared.forms.LineForm.{LineForm}
use Rattle.script_lines.specs.declared.forms.LineForm.TheVariants as lines

abbrev pub rule_form : RuleForm → form.RuleForm
rule_form (rules.Value text) = form.value text.now
rule_form (rules.Echo name) = form.echo name.now
rule_form (rules.Add left right) = form.add left.now right.now
rule_form (rules.Code number) = form.code number.now
rule_form rules.Silent = form.silent

abbrev pub header_form : HeaderForm → form.HeaderForm
header_form (headers.Client file) = form.client file.now
header_form (headers.Server file) = form.server file.now
header_form (headers.Interface home name) = form.interface home.now name.now
header_form (headers.Object text) = form.object text.now
header_form (headers.Servant func rule) = form.servant func.now (rule_form rule)
header_form (headers.Queue capacity timeout) = form.queue capacity.now timeout.now

abbrev pub event_form : EventForm → form.EventForm
event_form (events.Call caller func args) = form.call caller.now func.now args.now
event_form (events.Serve node count) = form.serve node.now (text_of count)
event_form (events.Work node) = form.work node.now
event_form (events.Deliver node count) = form.deliver node.now (text_of count)
event_form events.Close = form.close

abbrev pub line_form : LineForm → form.Said
line_form lines.Skipped = form.skipped
line_form (lines.Header header) = form.header (header_form header)
line_form (lines.Event event) = form.event (event_form event)
