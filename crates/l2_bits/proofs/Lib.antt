pub mod BitFields
mod FieldsAgain
